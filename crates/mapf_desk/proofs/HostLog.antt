-- A desk of a log that was hosted, and the log that it left.
use Rattle.std.proofs.Common.{◌≡◌, ℕ, List, [], Option, Some, None, Result, Ok, Err, Bool, false, option_map, unwrap_or, subst, sym, ◌∙◌}
use Rattle.std.specs.Prelude.{IfOk, length}
use Rattle.std.specs.Option.{option_copied}
use Rattle.commit_log.specs.Text.{log_text}
use Rattle.desk_commits.specs.Entries.{Entry}
use Rattle.desk_commits.specs.State.{DeskState}
use Rattle.desk_cli.specs.declared.words.HostWords.{HostWords}
use Rattle.desk_cli.specs.declared.words.ServeWords.{ServeWords}
use Rattle.desk_io.specs.Texts.{AreTexts, IsTold}
use Rattle.desk_io.specs.declared.named.Named.{Named}
use Rattle.desk_log.specs.Keeping.{IsLogged, texts_of}
use Rattle.shared_runs.specs.Hosts.{Hosts}
use Rattle.shared_runs.specs.Logged.{IsKeptAtEnd}
use Rattle.shared_runs.specs.declared.hosts.hosting.HostEnd.{HostEnd}
use Rattle.single_runs.specs.Opened.{OpensDesk}
use Rattle.solver_check.specs.Inputs.{untold_input}
use Rattle.mapf_desk.specs.Ends.{limit_of}
use Rattle.mapf_desk.specs.Files.{OfFiles}
use Rattle.mapf_desk.specs.Hosted.{HostsLogged, IsOpenedLogged, IsRunEndOf}
use Rattle.mapf_desk.specs.Logged.{IsHad, head_of}
use Rattle.mapf_desk.specs.declared.faults.ProgramFault.{ProgramFault}
use Rattle.mapf_desk.specs.declared.statuses.RunEnd.{RunEnd}

-- the desk of the texts of files and of what a log had, and the log as it then is
pub opened_logged : {T E : Type 0} (ready : Result T E) (desk : T → DeskState) (IsReady : (map scen : Option (List ℕ)) → T → Type 0) (holds : List ℕ → Option (List ℕ)) (words : ServeWords) (named : Named) (map scen had text : Option (List ℕ)) (bytes : List ℕ)
    → AreTexts holds (option_copied words.map) (option_copied words.scen) None None named → map ≡ option_map (λ b. b.items) named.map → scen ≡ option_map (λ b. b.items) named.scen
    → text ≡ had → IsTold had bytes
    → IfOk ready (λ r. (journal : Option (List ℕ)) × IsHad words (unwrap_or map []) scen bytes journal × OpensDesk (unwrap_or map []) scen words.agents words.mode (limit_of words) journal (desk r))
    → IfOk ready (λ r. text ≡ Some bytes → IsReady map scen r)
    → IfOk ready (λ r. (bytes : List ℕ) × IsTold had bytes × OfFiles holds (option_copied words.map) (option_copied words.scen) None None (λ map scen none. IsOpenedLogged words bytes (desk r) map scen none × (had ≡ Some bytes → IsReady map scen r)))
opened_logged (Err fault) desk IsReady holds words named map scen had text bytes texts of_map of_scen same told opens kept = tt
opened_logged (Ok r) desk IsReady holds words named map scen had text bytes texts of_map of_scen same told opens kept = (
  bytes,
  told,
  record { named = named; texts = texts; is = rw (sym of_map, sym of_scen) (opens, λ (is : had ≡ Some bytes). kept (same ∙ is)) },
)

-- a log that has not failed has the entries of the journal at the end
pub unfailed : (has_failed : Bool) (head : List ℕ) (text kept : Option (List ℕ)) (count : ℕ) (check : List ℕ) (journal : List Entry) → has_failed ≡ false
    → IsKeptAtEnd has_failed head text kept count check journal → IsLogged head text kept count check journal
unfailed has_failed head text kept count check journal same at_end = subst (λ (failed : Bool). IsKeptAtEnd failed head text kept count check journal) same at_end

-- a log that was let go with the entries of a journal has been left so
pub left_with : (has_left : List ℕ → Type 0) (head : List ℕ) (text kept : Option (List ℕ)) (count : ℕ) (check : List ℕ) (journal : List Entry) → ((whole : List ℕ) → text ≡ Some whole → kept ≡ Some whole → has_left whole)
    → IsLogged head text kept count check journal → has_left (log_text head (texts_of journal))
left_with has_left head text kept count check journal closed logged = closed (log_text head (texts_of journal)) logged.text_is (logged.kept_is ∙ logged.text_is)

-- what the hosting comes to
pub hosted_logged : (holds : List ℕ → Option (List ℕ)) (had : Option (List ℕ)) (has_left : List ℕ → Type 0) (words : HostWords) (bytes : List ℕ) (start : DeskState) (end : HostEnd) (result : Result RunEnd ProgramFault)
    → OfFiles holds (option_copied words.desk.map) (option_copied words.desk.scen) None None (λ map scen none. IsOpenedLogged words.desk bytes start map scen none
    × (had ≡ Some bytes → has_left (log_text (head_of words.desk (unwrap_or map []) scen) (texts_of end.desk.journal)))) → IsTold had bytes
    → Hosts (λ _. untold_input words.desk.lines) start (length words.names.items) end
    → IfOk result (IsRunEndOf end)
    → IfOk result (λ run. OfFiles holds (option_copied words.desk.map) (option_copied words.desk.scen) None None (λ map scen none. HostsLogged had has_left words map scen run))
hosted_logged holds had has_left words bytes start end (Err fault) opened told hosts ended = tt
hosted_logged holds had has_left words bytes start end (Ok run) opened told hosts ended =
    record {
      named = opened.named;
      texts = opened.texts;
      is = record { bytes = bytes; told = told; start = start; opened = opened.is.0; end = end; hosts = hosts; run_is = ended; left = opened.is.1 };
    }
