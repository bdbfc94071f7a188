-- The conflict list of a fleet, and its order (this project's choice of list and order; the entries are those of Stern et al. 2019).
use Rattle.std.specs.Prelude.{ℕ, List, [], ◌∷◌, AllPairs}
use Rattle.plan_table.specs.Route.{Fleet}
use Rattle.plan_table.specs.Order.{ListsAll, ComesBefore}
use Rattle.mapf_rules.specs.Entries.{IsVertex, IsParked, IsEdge, IsFollowing, IsSwapping}
use Rattle.mapf_rules.specs.Cycles.{IsRing}
use Rattle.mapf_rules.specs.declared.entries.Conflict.{Conflict}
use Rattle.mapf_rules.specs.declared.entries.Conflict.TheVariants.{Vertex, Parked, Edge, Following, Swapping, Cycle}
use Rattle.mapf_rules.specs.declared.entries.Kind.{Kind}
use Rattle.mapf_rules.specs.declared.entries.Kind.TheVariants as kinds

-- the entry says what is so
abbrev pub Stands : Fleet → Conflict → Type 0
Stands fleet (Vertex time first second cell) = IsVertex fleet time first second cell
Stands fleet (Parked time first second cell) = IsParked fleet time first second cell
Stands fleet (Edge time first second cell next) = IsEdge fleet time first second cell next
Stands fleet (Following time follower leader cell) = IsFollowing fleet time follower leader cell
Stands fleet (Swapping time first second cell other) = IsSwapping fleet time first second cell other
Stands fleet (Cycle time ring) = IsRing fleet time ring

-- the kind of an entry
abbrev pub kind_of : Conflict → Kind
kind_of (Vertex time first second cell) = kinds.Vertex
kind_of (Parked time first second cell) = kinds.Parked
kind_of (Edge time first second cell next) = kinds.Edge
kind_of (Following time follower leader cell) = kinds.Following
kind_of (Swapping time first second cell other) = kinds.Swapping
kind_of (Cycle time ring) = kinds.Cycle

-- entries are listed by kind, then time, then the agents as written, then the cells, each by row and column
-- (this project's choice)
abbrev pub listing_key : Conflict → List ℕ
listing_key (Vertex time first second cell) = 0 ∷ time ∷ first ∷ second ∷ cell.y ∷ cell.x ∷ []
listing_key (Parked time first second cell) = 1 ∷ time ∷ first ∷ second ∷ cell.y ∷ cell.x ∷ []
listing_key (Edge time first second cell next) = 2 ∷ time ∷ first ∷ second ∷ cell.y ∷ cell.x ∷ next.y ∷ next.x ∷ []
listing_key (Following time follower leader cell) = 3 ∷ time ∷ follower ∷ leader ∷ cell.y ∷ cell.x ∷ []
listing_key (Swapping time first second cell other) = 4 ∷ time ∷ first ∷ second ∷ cell.y ∷ cell.x ∷ other.y ∷ other.x ∷ []
listing_key (Cycle time ring) = 5 ∷ time ∷ ring

-- the conflict list of the fleet: each entry that stands, and no other, strictly ascending
abbrev pub AreConflicts : Fleet → List Conflict → Type 0
AreConflicts fleet conflicts = ListsAll listing_key (Stands fleet) conflicts

-- the entries are in order, each once
abbrev pub IsListed : List Conflict → Type 0
IsListed entries = AllPairs (λ a b. ComesBefore (listing_key a) (listing_key b)) entries
