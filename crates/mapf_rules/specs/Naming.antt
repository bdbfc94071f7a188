-- Which agents an entry names, and when (words for the entries of Stern et al. 2019).
use Rattle.std.specs.Prelude.{◌≡◌, ◌⊎◌, ℕ, Contains, slice_index}
use Rattle.mapf_rules.specs.ConflictList.{listing_key}
use Rattle.mapf_rules.specs.declared.entries.Conflict.{Conflict}
use Rattle.mapf_rules.specs.declared.entries.Conflict.TheVariants.{Vertex, Parked, Edge, Following, Swapping, Cycle}

-- the entry is of that time and those two agents, in this order
abbrev pub IsOfPair : Conflict → ℕ → ℕ → ℕ → Type 0
IsOfPair (Vertex time first second cell) x a b = (time ≡ x) × (first ≡ a) × (second ≡ b)
IsOfPair (Parked time first second cell) x a b = (time ≡ x) × (first ≡ a) × (second ≡ b)
IsOfPair (Edge time first second cell next) x a b = (time ≡ x) × (first ≡ a) × (second ≡ b)
IsOfPair (Following time follower leader cell) x a b = (time ≡ x) × (follower ≡ a) × (leader ≡ b)
IsOfPair (Swapping time first second cell other) x a b = (time ≡ x) × (first ≡ a) × (second ≡ b)
IsOfPair (Cycle time ring) x a b = ⊥

-- the entry is of that time and those two agents, in either order
abbrev pub IsOfTwo : Conflict → ℕ → ℕ → ℕ → Type 0
IsOfTwo entry time a b = IsOfPair entry time a b ⊎ IsOfPair entry time b a

-- the entry is of two agents
abbrev pub IsPair : Conflict → Type 0
IsPair (Vertex time first second cell) = Unit {0}
IsPair (Parked time first second cell) = Unit {0}
IsPair (Edge time first second cell next) = Unit {0}
IsPair (Following time follower leader cell) = Unit {0}
IsPair (Swapping time first second cell other) = Unit {0}
IsPair (Cycle time ring) = ⊥

-- the entry names the agent
abbrev pub Names : Conflict → ℕ → Type 0
Names (Vertex time first second cell) a = (first ≡ a) ⊎ (second ≡ a)
Names (Parked time first second cell) a = (first ≡ a) ⊎ (second ≡ a)
Names (Edge time first second cell next) a = (first ≡ a) ⊎ (second ≡ a)
Names (Following time follower leader cell) a = (follower ≡ a) ⊎ (leader ≡ a)
Names (Swapping time first second cell other) a = (first ≡ a) ⊎ (second ≡ a)
Names (Cycle time ring) a = Contains ring a

-- the time of an entry
abbrev pub time_of : Conflict → ℕ
time_of (Vertex time first second cell) = time
time_of (Parked time first second cell) = time
time_of (Edge time first second cell next) = time
time_of (Following time follower leader cell) = time
time_of (Swapping time first second cell other) = time
time_of (Cycle time ring) = time

-- the agent that an entry names first, by which it is listed after its kind and time: of a ring it is the least one
abbrev pub first_agent : Conflict → ℕ
first_agent entry = slice_index (listing_key entry) 2
