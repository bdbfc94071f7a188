-- What a counter answers: each call is a relation between the counter before it, the answer, and the counter after it.
use Rattle.std.specs.Prelude.{◌≡◌, ◌↔◌, ℕ, Bool, Option, Result, Ok, Err, IsTrue, IfOk}
use Rattle.grid_cells.specs.Cell.{Point}
use Rattle.grid_cells.specs.declared.memory.OutOfMemory.{OutOfMemory}
use Rattle.desk_report.specs.Solves.{Solves}
use Rattle.mapf_rules.specs.declared.kinds.Kinds.{Kinds}
use Rattle.desk_commits.specs.Entries.{Entry}
use Rattle.desk_commits.specs.State.{DeskState, version_of}
use Rattle.desk_commits.specs.Commits.{Committed}
use Rattle.desk_commits.specs.Questions.{ShowsReport, AnswersDistance}
use Rattle.desk_commits.specs.declared.answers.Refusal.{Refusal}
use Rattle.desk_commits.specs.declared.answers.Reading.{Reading}
use Rattle.desk_commits.specs.declared.answers.AskFault.{AskFault}

-- the calls of a counter whose values are those of S, each from the value before to the value after; a question is the
-- relation of a desk to what may be answered of it
pub record Counting (S : Type 0) : Type 1 where
  pub planner : S → ℕ
  pub versions : S → ℕ → S → Type 0
  pub commits : S → Entry → Result ℕ (Refusal × Entry) → S → Type 0
  pub reads : S → Result Reading OutOfMemory → S → Type 0
  pub tells : S → ℕ → Point → Result (Option ℕ) AskFault → S → Type 0
  pub asks : (X : Type 0) → S → (DeskState → X → Type 0) → X → S → Type 0

-- whether a reading of the counter solves by those kinds, where the reading finds memory
abbrev pub Judging : {S : Type 0} → Counting S → S → Kinds → Result Bool OutOfMemory → S → Type 0
Judging c old kinds (Ok answer) new = (reading : Reading) × c.reads old (Ok reading) new × (IsTrue answer ↔ Solves reading.report kinds)
Judging c old kinds (Err refused) new = c.reads old (Err refused) new

-- a desk counts for planner 0, and each call is one call of the desk: only an accepted commit changes it
abbrev pub desk_counting : Counting DeskState
desk_counting = record {
  planner = λ desk. 0;
  versions = λ old version new. (version ≡ version_of old) × (new ≡ old);
  commits = Committed;
  reads = λ old result new. IfOk result (ShowsReport old) × (new ≡ old);
  tells = λ old agent cell result new. AnswersDistance old.scene agent cell result × (new ≡ old);
  asks = λ X old IsAnswer answer new. IsAnswer old answer × (new ≡ old);
}
