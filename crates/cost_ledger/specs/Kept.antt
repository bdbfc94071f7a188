-- What a ledger of costs keeps beside its rows, so that no call looks at all of them (this project's choice).
use Rattle.std.specs.Prelude.{◌≡◌, ◌↔◌, ℕ, ◌+◌, ◌≤◌, Some, List, Contains, sum_by, ◌&&◌, ◌==◌, if◌then◌else◌}
use Rattle.std.specs.Ordering.{nat_cmp, ordering_then}
use Rattle.std.specs.List.{slice_index_or}
use Rattle.std.specs.declared.cmp.Ordering.{Ordering}
use Rattle.grid_cells.specs.Cell.{Point}
use Rattle.grid_cells.specs.declared.numbers.TheConstants.{MOST_AGENT}
use Rattle.plan_table.specs.Path.{last_index, IsPath}
use Rattle.plan_table.specs.Plans.{IsByAgent, row_of, ChangesRow}
use Rattle.plan_table.specs.declared.plans.Row.{Row}
use Rattle.cost_ledger.specs.declared.rests.Rest.{Rest}
use Rattle.mapf_rules.specs.declared.visits.Visit.{Visit}

-- an agent and the time at which it comes to rest
abbrev pub rest : ℕ → ℕ → Rest
rest time agent = record { time = time; agent = agent }

-- rests compare by time, then agent
abbrev pub rest_cmp : Rest → Rest → Ordering
rest_cmp a b = ordering_then (nat_cmp a.time b.time) (nat_cmp a.agent b.agent)

-- visits compare by agent, then time, then the cell's row and column
abbrev pub visit_cmp : Visit → Visit → Ordering
visit_cmp a b = ordering_then (nat_cmp a.agent b.agent) (ordering_then (nat_cmp a.time b.time) (ordering_then (nat_cmp a.cell.y b.cell.y) (nat_cmp a.cell.x b.cell.x)))

-- the index of the last cell of a row's path
abbrev pub last_of_row : Row → ℕ
last_of_row row = last_index row.plan

-- 0 where the row's path ends at its goal, and 1 otherwise
abbrev pub ends_elsewhere : Row → ℕ
ends_elsewhere row =
    let d = row.goal in
    let end = slice_index_or row.plan (last_index row.plan) d in
    if (end.y == row.goal.y && end.x == row.goal.x) then 0 else 1

-- the last indices of the paths of the rows
abbrev pub AreRests : List (ℕ × Row) → List Rest → Type 0
AreRests rows rests = (r : Rest) → Contains rests r ↔ ((row : Row) × (row_of rows r.agent ≡ Some row) × (r.time ≡ last_of_row row))

-- the sum of a number of each row
abbrev pub sum_of_rows : (Row → ℕ) → List (ℕ × Row) → ℕ
sum_of_rows number rows = sum_by (λ entry. number entry.1) rows

-- new has that row of an agent that had none, and the rows of old
pub record GainsRow (old new : List (ℕ × Row)) (agent : ℕ) (row : Row) : Type 0 where
  pub change : ChangesRow old new agent (Some row)
  pub sums : (number : Row → ℕ) → sum_of_rows number new ≡ sum_of_rows number old + number row
  pub by_agent : IsByAgent new

-- the agent's row before is the one after in the new rows, and no other row changes
pub record SwapsRow (old new : List (ℕ × Row)) (agent : ℕ) (before after : Row) : Type 0 where
  pub was : row_of old agent ≡ Some before
  pub now : ChangesRow old new agent (Some after)
  pub sums : (number : Row → ℕ) → sum_of_rows number new + number before ≡ sum_of_rows number old + number after

-- the agent's row gets that goal; how many paths of the row end elsewhere than at its goal, before and after
abbrev pub AimsRow : List (ℕ × Row) → List (ℕ × Row) → ℕ → Point → ℕ × ℕ → Type 0
AimsRow old new agent goal away =
    (row : Row) × SwapsRow old new agent row (record row { goal = goal })
    × (away.0 ≡ ends_elsewhere row) × (away.1 ≡ ends_elsewhere (record row { goal = goal }))

-- what is kept beside the rows is theirs
pub record Keeps (rows : List (ℕ × Row)) (rests : List Rest) (total elsewhere : ℕ) : Type 0 where
  pub by_agent : IsByAgent rows
  pub lawful : (agent : ℕ) (row : Row) → row_of rows agent ≡ Some row → (agent ≤ MOST_AGENT) × IsPath row.plan
  pub rests_are : AreRests rows rests
  pub total_is : total ≡ sum_of_rows last_of_row rows
  pub elsewhere_is : elsewhere ≡ sum_of_rows ends_elsewhere rows
