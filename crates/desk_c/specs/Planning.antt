-- Calls of a desk on numbers: each is a call of the desk (this project's choice).
use Rattle.std.specs.Prelude.{◌≡◌, ◌+◌, ◌<◌, ◌≤◌, ℕ, Bool, List, [], ◌∷◌, map, All, Option, Result, Ok, Err}
use Rattle.grid_cells.specs.Cell.{Point, point}
use Rattle.grid_cells.specs.declared.numbers.TheConstants.{MOST_AGENT}
use Rattle.scene_edits.specs.declared.edits.Edit.TheVariants.{Path}
use Rattle.mapf_rules.specs.declared.kinds.Kinds.{Kinds}
use Rattle.desk_commits.specs.Entries.{Entry}
use Rattle.desk_commits.specs.State.{DeskState, version_of}
use Rattle.desk_commits.specs.Commits.{Committed, Tries}
use Rattle.desk_commits.specs.Questions.{AnswersDistance, Judges, TellsCut}
use Rattle.desk_commits.specs.declared.answers.AskFault.{AskFault}
use Rattle.desk_commits.specs.declared.answers.Reading.{Reading}
use Rattle.desk_commits.specs.declared.answers.Refusal.{Refusal}
use Rattle.desk_c.specs.Numbers.{HasFront, IsOfCell, cell_numbers, entry_numbers}
use Rattle.desk_c.specs.Statuses.{status_of}
use Rattle.desk_c.specs.declared.numbers.CellNumbers.{CellNumbers}
use Rattle.desk_c.specs.declared.numbers.EntryNumbers.{EntryNumbers}
use Rattle.desk_c.specs.declared.statuses.Stop.{Stop}
use Rattle.desk_c.specs.declared.statuses.Stop.TheVariants as stop
use Rattle.desk_c.specs.declared.statuses.TheConstants.{DONE}

-- planner 0's commit of an agent's path alone, made on the desk's version, without watches
pub record IsPathCommit (desk : DeskState) (agent : ℕ) (path : List CellNumbers) (commit : Entry) : Type 0 where
  pub cells : List Point
  pub numbers : path ≡ map cell_numbers cells
  pub is : commit ≡ record { planner = 0; base = version_of desk; watch = []; edits = Path agent cells ∷ [] }

-- the numbers are those of an agent and of cells
abbrev pub AreNumbers : ℕ → List CellNumbers → Type 0
AreNumbers agent path = (agent ≤ MOST_AGENT) × All IsOfCell path

-- the commit of the path, or why there is none
abbrev pub MakesCommit : DeskState → ℕ → List CellNumbers → Result Entry Stop → Type 0
MakesCommit desk agent path (Ok commit) = IsPathCommit desk agent path commit
MakesCommit desk agent path (Err stop.NoNumber) = AreNumbers agent path → ⊥
MakesCommit desk agent path (Err stop.OutOfMemory) = Unit {0}
MakesCommit desk agent path (Err other) = ⊥

-- the desk's answer to the commit of the path
pub record PutsPath (old : DeskState) (agent : ℕ) (path : List CellNumbers) (answer : Entry → Result ℕ (Refusal × Entry)) (new : DeskState) : Type 0 where
  pub commit : Entry
  pub is : IsPathCommit old agent path commit
  pub answered : Committed old commit (answer commit) new

-- the path is committed, or the desk refuses it, or it isn't asked
abbrev pub CommitsPath : DeskState → ℕ → List CellNumbers → Result ℕ Stop → DeskState → Type 0
CommitsPath old agent path (Ok version) new = PutsPath old agent path (λ commit. Ok version) new
CommitsPath old agent path (Err (stop.Refused why)) new = PutsPath old agent path (λ commit. Err (why, commit)) new
CommitsPath old agent path (Err stop.NoNumber) new = (AreNumbers agent path → ⊥) × (new ≡ old)
CommitsPath old agent path (Err stop.OutOfMemory) new = new ≡ old
CommitsPath old agent path (Err other) new = ⊥

-- the desk's answer to the trial of the path, with the question of what the report then says of the agent
pub record TriesOut (desk : DeskState) (agent : ℕ) (path : List CellNumbers) (answer : Result (ℕ × Result Reading AskFault) Refusal) : Type 0 where
  pub commit : Entry
  pub is : IsPathCommit desk agent path commit
  pub agents : List ℕ
  pub alone : agents ≡ agent ∷ []
  pub answered : Tries desk commit (λ grown. TellsCut grown agents) answer

-- what the report would say of the agent after the commit of the path
abbrev pub TriesPath : DeskState → ℕ → List CellNumbers → Result Reading Stop → Type 0
TriesPath desk agent path (Ok reading) = TriesOut desk agent path (Ok (version_of desk + 1, Ok reading))
TriesPath desk agent path (Err (stop.Refused why)) = TriesOut desk agent path (Err why)
TriesPath desk agent path (Err (stop.NotAsked why)) = TriesOut desk agent path (Ok (version_of desk + 1, Err why))
TriesPath desk agent path (Err stop.NoNumber) = AreNumbers agent path → ⊥
TriesPath desk agent path (Err stop.OutOfMemory) = Unit {0}

-- the desk's answer to the question of what the report says of that agent alone
pub record AsksOf (desk : DeskState) (agent : ℕ) (answer : Result Reading AskFault) : Type 0 where
  pub agents : List ℕ
  pub alone : agents ≡ agent ∷ []
  pub told : TellsCut desk agents answer

-- what the report says of the agent
abbrev pub TellsEntries : DeskState → ℕ → Result Reading Stop → Type 0
TellsEntries desk agent (Ok reading) = AsksOf desk agent (Ok reading)
TellsEntries desk agent (Err (stop.NotAsked why)) = AsksOf desk agent (Err why)
TellsEntries desk agent (Err stop.NoNumber) = MOST_AGENT < agent
TellsEntries desk agent (Err stop.OutOfMemory) = Unit {0}
TellsEntries desk agent (Err other) = ⊥

-- whether the plans solve by the kinds
abbrev pub TellsSolves : DeskState → Kinds → Result Bool Stop → Type 0
TellsSolves desk kinds (Ok answer) = Judges desk kinds answer
TellsSolves desk kinds (Err stop.OutOfMemory) = Unit {0}
TellsSolves desk kinds (Err other) = ⊥

-- the distance of the cell to the agent's goal
abbrev pub TellsDistance : DeskState → ℕ → CellNumbers → Result (Option ℕ) Stop → Type 0
TellsDistance desk agent cell (Ok distance) = AnswersDistance desk.scene agent (point cell.x cell.y) (Ok distance)
TellsDistance desk agent cell (Err (stop.NotAsked why)) = AnswersDistance desk.scene agent (point cell.x cell.y) (Err why)
TellsDistance desk agent cell (Err stop.NoNumber) = AreNumbers agent (cell ∷ []) → ⊥
TellsDistance desk agent cell (Err other) = ⊥

-- the conflicts of a reading are given, or nothing is where there is none
abbrev pub GivesEntries : Result Reading Stop → ℕ → (room0 room1 : List EntryNumbers) → (count0 count1 : ℕ) → Type 0
GivesEntries (Ok reading) told room0 room1 count0 count1 = (told ≡ DONE) × HasFront (map entry_numbers reading.report.conflicts) room0 room1 count1
GivesEntries (Err why) told room0 room1 count0 count1 = (told ≡ status_of why) × (room1 ≡ room0) × (count1 ≡ count0)
