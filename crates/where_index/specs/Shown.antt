-- Whom spots show, and when: words for the program's own steps (this project's choice).
use Rattle.std.specs.Prelude.{◌≡◌, ◌⊎◌, ℕ, ◌≤◌, Bool, IsTrue, List, [], ◌∷◌, Contains}
use Rattle.std.specs.Ordering.{nat_cmp, ordering_then}
use Rattle.std.specs.declared.cmp.Ordering.{Ordering}
use Rattle.plan_table.specs.Order.{ListsAll}
use Rattle.where_index.specs.declared.spot_sets.Spot.{Spot}
use Rattle.where_index.specs.declared.passings.Passing.{Passing}

-- the spot is the agent's, and not after the time
abbrev pub IsBy : ℕ → Spot → ℕ → Type 0
IsBy time s agent = (s.step.agent ≡ agent) × (s.time ≤ time)

-- one of the spots is
abbrev pub HasAgentBy : ℕ → List Spot → ℕ → Type 0
HasAgentBy time spots agent = (s : Spot) × Contains spots s × IsBy time s agent

-- the agents of the spots in either list that are not after the time, ascending
abbrev pub AreAgentsBy : ℕ → List Spot → List Spot → List ℕ → Type 0
AreAgentsBy time stands tails agents = ListsAll (λ a. a ∷ []) (λ a. HasAgentBy time stands a ⊎ HasAgentBy time tails a) agents

-- the time and the agent of a spot
abbrev pub passing_of : Spot → Passing
passing_of s = record { time = s.time; agent = s.step.agent }

abbrev pub IsPassing : Spot → Passing → Type 0
IsPassing s passing = passing_of s ≡ passing

-- one of the spots is the agent's at that time
abbrev pub HasPassing : List Spot → Passing → Type 0
HasPassing spots passing = (s : Spot) × Contains spots s × IsPassing s passing

-- what the comparison calls equal is the same
abbrev pub EqualsAreSame : {X : Type 0} → (X → X → Bool) → Type 0
EqualsAreSame eq = (a b : _) → IsTrue (eq a b) → a ≡ b

-- passings compare by time, then agent
abbrev pub passing_cmp : Passing → Passing → Ordering
passing_cmp a b = ordering_then (nat_cmp a.time b.time) (nat_cmp a.agent b.agent)
