-- How a session's end follows from its parts.
use Rattle.std.proofs.Common.{◌≡◌, ◌⊎◌, inl, inr, ℕ, List, Option, None, Result, Ok, Err, option_map, sym}
use Rattle.std.specs.Option.{option_copied}
use Rattle.desk_commits.specs.State.{DeskState}
use Rattle.desk_cli.specs.declared.words.ServeWords.{ServeWords}
use Rattle.desk_io.specs.Texts.{AreTexts}
use Rattle.desk_io.specs.declared.named.Named.{Named}
use Rattle.solver_check.specs.declared.faults.Fault.{Fault}
use Rattle.solver_check.specs.declared.faults.RunFault.{RunFault}
use Rattle.mapf_desk.specs.Files.{OfFiles}
use Rattle.mapf_desk.specs.Ends.{HasServeFault, IsFaultAtEnd, IsLast, IsLeftBySession, IsUnsavedIn, last_fault}

-- the last fault is the session's, or that of the last answers
pub last_is_last : {T E : Type 0} (before : Option RunFault) (sent : Result T E) (last : Option RunFault) → last ≡ last_fault before sent → IsLast before last
last_is_last before (Ok done) last is = inl is
last_is_last before (Err why) last is = inr is

-- a session that had a fault, or was not saved
pub unserved : (holds : List ℕ → Option (List ℕ)) (words : ServeWords) (named : Named) (map scen journal left : Option (List ℕ)) (desk : Option DeskState) (why : Option RunFault) (held : Option (List ℕ)) (fault : Fault) → AreTexts holds (option_copied words.map) (option_copied words.scen) (option_copied words.journal) None named → map ≡ option_map (λ b. b.items) named.map → scen ≡ option_map (λ b. b.items) named.scen → journal ≡ option_map (λ b. b.items) named.journal → IsLeftBySession words map scen journal left desk why → held ≡ option_copied words.save → IsFaultAtEnd why fault ⊎ IsUnsavedIn held fault → OfFiles holds (option_copied words.map) (option_copied words.scen) (option_copied words.journal) None (λ map scen journal. HasServeFault words map scen journal fault)
unserved holds words named map scen journal left desk why held fault texts of_map of_scen of_journal sat save end = record {
  named = named;
  texts = texts;
  is = rw (sym of_map, sym of_scen, sym of_journal) (left, desk, why, sat, rw (sym save) end);
}
