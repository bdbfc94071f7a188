-- What hosting comes to follows from its parts.
use Rattle.std.proofs.Common.{◌≡◌, ℕ, List, Option, None, Result, Ok, Err, IfOk, length, subst, sym}
use Rattle.std.specs.Option.{option_copied}
use Rattle.desk_commits.specs.State.{DeskState}
use Rattle.desk_cli.specs.declared.words.HostWords.{HostWords}
use Rattle.mapf_desk.specs.Ends.{IsOpened, IsSavedIn, Savings}
use Rattle.mapf_desk.specs.Files.{OfFiles}
use Rattle.session_lines.specs.declared.versions.LinesVersion.{LinesVersion}
use Rattle.shared_runs.specs.Hosts.{Hosts}
use Rattle.shared_runs.specs.declared.hosts.hosting.HostEnd.{HostEnd}
use Rattle.solver_check.specs.Inputs.{untold_input}
use Rattle.mapf_desk.specs.Hosted.{HasHostedFiles, IsRunEndOf}
use Rattle.mapf_desk.specs.declared.statuses.RunEnd.{RunEnd}

pub hosted : {E : Type 0} (holds : List ℕ → Option (List ℕ)) (has_saved : Savings) (words : HostWords) (start : DeskState) (version : LinesVersion) (planners : ℕ) (end : HostEnd) (held : Option (List ℕ)) (result : Result RunEnd E)
    → OfFiles holds (option_copied words.desk.map) (option_copied words.desk.scen) (option_copied words.desk.journal) None (IsOpened words.desk start)
    → version ≡ words.desk.lines → planners ≡ length words.names.items → Hosts (λ _. untold_input version) start planners end
    → held ≡ option_copied words.desk.save
    → IfOk result (IsRunEndOf end) → IfOk result (λ run. IsSavedIn has_saved held end.desk) → IfOk result (HasHostedFiles holds has_saved words)
hosted holds has_saved words start version planners end held (Ok run) files lines many hosts save ended saved = record {
  named = files.named;
  texts = files.texts;
  is = (start, end, files.is, rw (sym lines, sym many) hosts, ended, subst (λ file. IsSavedIn has_saved file end.desk) save saved);
}
hosted holds has_saved words start version planners end held (Err fault) files lines many hosts save ended saved = tt

-- what was hosted at seats of that version of lines was hosted at those of the words
pub seated : {A E : Type 0} (version lines : LinesVersion) (planners many : ℕ) (start : DeskState) (result : Result (HostEnd × A) E) → version ≡ lines → planners ≡ many
    → IfOk result (λ end. Hosts (λ _. untold_input version) start planners end.0) → IfOk result (λ end. Hosts (λ _. untold_input lines) start many end.0)
seated version lines planners many start result is counted hosts = rw (sym is, sym counted) hosts
