-- What a commit changes in a report (this project's choice).
use Rattle.std.specs.Prelude.{◌≡◌, ◌⊎◌, ◌↔◌, ℕ, None, List, Contains}
use Rattle.grid_cells.specs.Grid.{Chart}
use Rattle.change_history.specs.Moved.{Tell}
use Rattle.desk_report.specs.declared.reports.Report.{Report}
use Rattle.live_report.specs.Prices.{Rows}
use Rattle.live_report.specs.declared.turnovers.Turnover.{Turnover}

-- what came to each list and went from it, from the one report to the other
pub record IsTurnover (old new : Report) (turnover : Turnover) : Type 0 where
  pub conflicts : Tell old.conflicts new.conflicts turnover.conflicts
  pub visits : Tell old.visits new.visits turnover.visits
  pub lines : Tell old.lines new.lines turnover.lines

-- an agent that isn't among those was there neither before nor after, or has the row that it had on the map that was
abbrev pub CoverChanges : List ℕ → Chart → Rows → Chart → Rows → Type 0
CoverChanges agents map was grid rows =
    (agent : ℕ) → (Contains agents agent → ⊥) → ((was agent ≡ None) × (rows agent ≡ None)) ⊎ ((was agent ≡ rows agent) × (map ≡ grid))

-- the list has just the elements of which that is so
abbrev pub ListsEach : {X : Type 0} → List X → (X → Type 0) → Type 0
ListsEach {X} list P = (x : X) → Contains list x ↔ P x
