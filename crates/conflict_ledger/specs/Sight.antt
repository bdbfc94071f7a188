-- A fleet as an index shows it beside one agent's track: words for the ledger's own steps (this project's choice).
use Rattle.std.specs.Prelude.{◌≡◌, ◌≢◌, ◌⊎◌, ℕ, ◌+◌, ◌<◌, Option, Some, List, Contains, length, slice_index_or, Bool, IsTrue}
use Rattle.std.specs.Option.{option_and_then, option_map, unwrap_or}
use Rattle.grid_cells.specs.Cell.{Point}
use Rattle.where_index.specs.declared.moves.Move.{Move}
use Rattle.plan_table.specs.Route.{Route, Fleet, position, route_of, position_of}
use Rattle.where_index.specs.Index.{Contents, StandsFor}
use Rattle.conflict_ledger.specs.Change.{SameBut}
use Rattle.conflict_ledger.specs.declared.sight.Sight.{Sight}
use Rattle.mapf_rules.specs.Entries.{OnePasses, IsFollowing}

-- the fleet has that route for the agent, or none, and for the others those of the fleet for which the index stands
pub record Shows (index : Contents) (agent : ℕ) (route : Option Route) (fleet : Fleet) : Type 0 where
  pub base : Fleet
  pub stands : StandsFor index base
  pub others : SameBut base fleet agent
  pub own : fleet agent ≡ route

-- the fleet is as the sight shows it
abbrev pub Sees : Sight → Fleet → Type 0
Sees sight fleet = Shows sight.index.now sight.agent (option_map route_of sight.shown) fleet

-- so it is of each fleet that the sight shows
abbrev pub InView : Sight → (Fleet → Type 0) → Type 0
InView sight holds = (fleet : Fleet) → Sees sight fleet → holds fleet

-- so it is of each fleet that the one sight shows, where there is one that the other shows
abbrev pub InBoth : Sight → Sight → (Fleet → Type 0) → Type 0
InBoth sight with holds = (fleet other : Fleet) → Sees sight fleet → Sees with other → holds fleet

-- the route of the sight's agent, where it is shown
abbrev pub own_route : Sight → Option Route
own_route sight = option_map route_of sight.shown

-- the agent moves to the cell: by its own move where it is the agent of the sight, and by the list otherwise
abbrev pub IsMoverIn : List Move → ℕ → Option Point → ℕ → Point → Type 0
IsMoverIn moves agent own mover to = ((mover ≡ agent) × (own ≡ Some to)) ⊎ ((mover ≢ agent) × Contains moves (record { agent = mover; to = to }))

-- the agent is the only one that moves so
abbrev pub IsSoleIn : List Move → ℕ → Option Point → ℕ → Type 0
IsSoleIn moves agent own mover = (other : ℕ) (to : Point) → IsMoverIn moves agent own other to → other ≡ mover

-- each of the moves is of one of the two agents
abbrev pub AreOfTwo : List Move → ℕ → ℕ → Type 0
AreOfTwo moves one other = (k : ℕ) (d : Move) → k < length moves → ((slice_index_or moves k d).agent ≡ one) ⊎ ((slice_index_or moves k d).agent ≡ other)

-- where the route is at the time, if there is one
abbrev pub own_place : Option Route → ℕ → Option Point
own_place route time = option_and_then (λ r. position r time) route

-- the route is in the one cell at the time, and in the other one step later
abbrev pub TakesStep : Option Route → ℕ → Point → Point → Type 0
TakesStep route time from to = (own_place route time ≡ Some from) × (own_place route (time + 1) ≡ Some to)

-- and that is another one
abbrev pub IsOwnMove : Option Route → ℕ → Point → Point → Type 0
IsOwnMove route time from to = (own_place route time ≡ Some from) × (own_place route (time + 1) ≡ Some to) × (to ≢ from)

-- the agent comes to the next cell in the step, which isn't the one where it was
abbrev pub Arrives : Fleet → ℕ → ℕ → Point → Point → Type 0
Arrives fleet agent time here next = (here ≢ next) × (position_of fleet agent (time + 1) ≡ Some next)

-- the agent is in the cell at the time, and one step later in the next one, or nowhere
pub record IsWhere (fleet : Fleet) (agent time : ℕ) (here next : Point) : Type 0 where
  pub now : position_of fleet agent time ≡ Some here
  pub later : unwrap_or (position_of fleet agent (time + 1)) here ≡ next

-- two agents, in order, are in the cell at the time
pub record AreTogether (fleet : Fleet) (time first second : ℕ) (cell : Point) : Type 0 where
  pub ordered : first < second
  pub first_there : position_of fleet first time ≡ Some cell
  pub second_there : position_of fleet second time ≡ Some cell

-- so it is in each fleet that the sight shows in which one of the two passes, if it is said
abbrev pub IfPasses : Sight → Bool → ℕ → ℕ → ℕ → (Fleet → Type 0) → Type 0
IfPasses sight said time first second holds = (fleet : Fleet) → Sees sight fleet → (IsTrue said → OnePasses fleet time first second) → holds fleet

-- so it is where one comes into the cell in which the other is as the step begins, and follows it, if that is said
abbrev pub WhereClose : Bool → Fleet → ℕ → ℕ → ℕ → Point → Type 0 → Type 0
WhereClose said fleet time follower leader cell holds =
    (IsTrue said → IsFollowing fleet time follower leader cell) → follower ≢ leader → position_of fleet leader time ≡ Some cell → position_of fleet follower (time + 1) ≡ Some cell → holds
