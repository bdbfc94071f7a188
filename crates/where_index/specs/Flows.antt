-- How many agents move each way in each step (this project's choice).
use Rattle.std.specs.Prelude.{◌≡◌, ℕ, zero, suc, ◌+◌, Bool, false, nat_lt, if◌then◌else◌, Option, Some, None, List, slice_index}
use Rattle.grid_cells.specs.Cell.{Point}
use Rattle.grid_cells.specs.declared.numbers.TheConstants.{MOST_AGENT}
use Rattle.where_index.specs.declared.trails.Hop.{Hop}
use Rattle.where_index.specs.declared.ways.Way.{Way}
use Rattle.where_index.specs.declared.ways.Way.TheVariants.{Up, Left, Right, Down}
use Rattle.where_index.specs.declared.flows.Flows.{Flows}
use Rattle.where_index.specs.Changes.{set_at}

-- the way leads from the one cell to the other: columns rise to the right, and rows downwards
abbrev pub leads : Way → Point → Point → Bool
leads Up from to = nat_lt to.y from.y
leads Left from to = nat_lt to.x from.x
leads Right from to = nat_lt from.x to.x
leads Down from to = nat_lt from.y to.y

-- there is a move, and it goes that way
abbrev pub goes : Way → Option Hop → Bool
goes way None = false
goes way (Some hop) = leads way hop.from hop.to

-- how many numbers below a bound pass
unfoldable pub many_below : (ℕ → Bool) → ℕ → ℕ
many_below p zero = 0
many_below p (suc n) = many_below p n + (if p n then 1 else 0)

-- the counts, by time, are those of the agents that move that way
abbrev pub AreCounted : List ℕ → Way → (ℕ → ℕ → Option Hop) → Type 0
AreCounted counts way f = (t : ℕ) → slice_index counts t ≡ many_below (λ a. goes way (f a t)) (MOST_AGENT + 1)

-- the counts of a way
abbrev pub flow : Flows → Way → List ℕ
flow flows Up = flows.up
flow flows Left = flows.left
flow flows Right = flows.right
flow flows Down = flows.down

-- the counts of each way are those of the agents
abbrev pub HasFlows : Flows → (ℕ → ℕ → Option Hop) → Type 0
HasFlows flows f = (way : Way) → AreCounted (flow flows way) way f

-- where the agent goes in a step gives way to another, in the counts of a way
abbrev pub ChangesCount : List ℕ → List ℕ → Way → ℕ → ℕ → Option Hop → Option Hop → Type 0
ChangesCount old new way agent time was next = (f : ℕ → ℕ → Option Hop) → AreCounted old way f → f agent time ≡ was → AreCounted new way (set_at f agent time next)

-- and in those of each
abbrev pub ChangesFlows : Flows → Flows → ℕ → ℕ → Option Hop → Option Hop → Type 0
ChangesFlows old new agent time was next = (f : ℕ → ℕ → Option Hop) → HasFlows old f → f agent time ≡ was → HasFlows new (set_at f agent time next)
