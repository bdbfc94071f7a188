-- Laws of the definitions of conflicts, costs and visits (consequences of the definitions).
use Rattle.std.specs.Prelude.{◌≡◌, ◌⊎◌, ◌↔◌, IsTrue, ℕ, ◌+◌, ◌<◌, ◌≤◌, Some, IsSome, List, Contains, Option}
use Rattle.std.specs.Ordering.{nat_cmp}
use Rattle.std.specs.Cmp.Lexicographic.{slice_cmp}
use Rattle.grid_cells.specs.Cell.{Point}
use Rattle.plan_table.specs.Route.{Fleet, position_of}
use Rattle.mapf_rules.specs.Entries.{IsVertex, IsParked, IsFollowing, IsSwapping}
use Rattle.mapf_rules.specs.ConflictList.{AreConflicts, Stands, listing_key}
use Rattle.mapf_rules.specs.declared.entries.Conflict.{Conflict}
use Rattle.mapf_rules.specs.declared.entries.Conflict.TheVariants.{Vertex, Parked, Edge, Following, Swapping, Cycle}
use Rattle.mapf_rules.specs.contracts.entries.ConflictOrd.TheImpl as order
use Rattle.mapf_rules.specs.declared.entries.Kind.{Kind}
use Rattle.mapf_rules.specs.contracts.entries.KindPartialEq.TheImpl as kinds
use Rattle.grid_cells.specs.Grid.{Chart}
use Rattle.plan_table.specs.Path.{last_index, IsPath}
use Rattle.plan_table.specs.declared.plans.Row.{Row}
use Rattle.mapf_rules.specs.Costs.{IsSettleTime, IsSumOfCosts, IsMakespan}
use Rattle.mapf_rules.specs.Visits.{AreVisits}
use Rattle.mapf_rules.specs.declared.visits.Visit.{Visit}

-- two entries compare as the numbers do by which they are listed
abbrev pub EntriesCompareAsListed : Type 0
EntriesCompareAsListed = (a b : Conflict) → order.ghosts.cmp a b ≡ slice_cmp nat_cmp (listing_key a) (listing_key b)

-- the program's `==` of two kinds is true exactly where they are one
abbrev pub KindsAreToldApart : Type 0
KindsAreToldApart = (a b : Kind) → IsTrue (kinds.ghosts.eq a b) ↔ (a ≡ b)

-- a fleet has at most one conflict list
abbrev pub OneConflictList : Type 0
OneConflictList = (fleet : Fleet) (xs ys : List Conflict) → AreConflicts fleet xs → AreConflicts fleet ys → xs ≡ ys

-- two agents are in one cell at a time
abbrev pub Meet : Fleet → ℕ → ℕ → ℕ → Point → Type 0
Meet fleet time first second cell = (position_of fleet first time ≡ Some cell) × (position_of fleet second time ≡ Some cell)

-- two agents meet exactly where a Vertex entry stands, or a Parked entry from that time or before
abbrev pub MeetingsAreTold : Type 0
MeetingsAreTold = (fleet : Fleet) (time first second : ℕ) (cell : Point) → first < second → Meet fleet time first second cell ↔ (IsVertex fleet time first second cell ⊎ ((from : ℕ) × (from ≤ time) × IsParked fleet from first second cell))

-- a swap is two followings
abbrev pub SwapIsTwoFollowings : Type 0
SwapIsTwoFollowings = (fleet : Fleet) (time first second : ℕ) (cell other : Point) → IsSwapping fleet time first second cell other → IsFollowing fleet time first second other × IsFollowing fleet time second first cell

-- the agent has a position at the step's start and at its end
abbrev pub HasStep : Fleet → ℕ → ℕ → Type 0
HasStep fleet time agent = IsSome (position_of fleet agent time) × IsSome (position_of fleet agent (time + 1))

-- each agent that the entry names has positions throughout the step, if it is an entry of a step
abbrev pub NamedHaveStep : Fleet → Conflict → Type 0
NamedHaveStep fleet (Vertex time first second cell) = Unit {0}
NamedHaveStep fleet (Parked time first second cell) = Unit {0}
NamedHaveStep fleet (Edge time first second cell next) = HasStep fleet time first × HasStep fleet time second
NamedHaveStep fleet (Following time follower leader cell) = HasStep fleet time follower × HasStep fleet time leader
NamedHaveStep fleet (Swapping time first second cell other) = HasStep fleet time first × HasStep fleet time second
NamedHaveStep fleet (Cycle time ring) = (agent : ℕ) → Contains ring agent → HasStep fleet time agent

abbrev pub NamedAgentsAreThere : Type 0
NamedAgentsAreThere = (fleet : Fleet) (entry : Conflict) → Stands fleet entry → NamedHaveStep fleet entry

-- a path with no wait at its end settles at its last index, and at no other time
pub record SettlesAtLast : Type 0 where
  pub settles : (path : List Point) → IsPath path → IsSettleTime path (last_index path)
  pub once : (path : List Point) (s t : ℕ) → IsSettleTime path s → IsSettleTime path t → s ≡ t

-- a map and a table have one list of blocked visits
abbrev pub OneVisitList : Type 0
OneVisitList = (grid : Chart) (rows : List (ℕ × Row)) (xs ys : List Visit) → AreVisits grid rows xs → AreVisits grid rows ys → xs ≡ ys

-- a table has one sum of costs and one makespan
pub record OneSumAndMakespan : Type 0 where
  pub sum : (rows : List (ℕ × Row)) (a b : Option ℕ) → IsSumOfCosts rows a → IsSumOfCosts rows b → a ≡ b
  pub makespan : (rows : List (ℕ × Row)) (a b : Option ℕ) → IsMakespan rows a → IsMakespan rows b → a ≡ b
