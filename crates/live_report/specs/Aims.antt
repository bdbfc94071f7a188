-- Which agents aim at which goals: words for what books of prices keep (this project's choice).
use Rattle.std.specs.Prelude.{ℕ, ◌≤◌, List, Contains}
use Rattle.std.specs.Ordering.{nat_cmp, ordering_then}
use Rattle.std.specs.BTreeMap.Range.{IsInRange}
use Rattle.std.specs.declared.cmp.Ordering.{Ordering}
use Rattle.std.specs.declared.ops.Bound.TheVariants.{Included}
use Rattle.grid_cells.specs.Cell.{Point}
use Rattle.grid_cells.specs.declared.numbers.TheConstants.{MOST_AGENT}
use Rattle.live_report.specs.declared.aims.Aim.{Aim}

-- that agent's aim at that goal
abbrev pub aim : Point → ℕ → Aim
aim goal agent = record { goal = goal; agent = agent }

-- aims compare by the goal's row and column, then agent
abbrev pub aim_cmp : Aim → Aim → Ordering
aim_cmp a b = ordering_then (ordering_then (nat_cmp a.goal.y b.goal.y) (nat_cmp a.goal.x b.goal.x)) (nat_cmp a.agent b.agent)

-- each aim has an agent's number
abbrev pub HaveAgents : List Aim → Type 0
HaveAgents aims = (a : Aim) → Contains aims a → a.agent ≤ MOST_AGENT

-- an agent aims at the goal
abbrev pub IsAimedAt : List Aim → Point → Type 0
IsAimedAt aims goal = (agent : ℕ) × Contains aims (aim goal agent)

-- one of the aims stands between the two, both included
abbrev pub HasBetween : List Aim → Aim → Aim → Type 0
HasBetween aims low high = (a : Aim) × Contains aims a × IsInRange aim_cmp (Included low) (Included high) a
