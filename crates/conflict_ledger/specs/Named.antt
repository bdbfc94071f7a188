-- The entries of a fleet that name one of some agents (this project's choice of words).
use Rattle.std.specs.Prelude.{◌≡◌, ◌↔◌, ℕ, List, Contains, Some}
use Rattle.plan_table.specs.Order.{ListsAll}
use Rattle.plan_table.specs.Route.{Fleet, Route}
use Rattle.where_index.specs.Index.{Contents, StandsFor}
use Rattle.mapf_rules.specs.ConflictList.{Stands, listing_key}
use Rattle.mapf_rules.specs.Naming.{Names}
use Rattle.mapf_rules.specs.declared.entries.Conflict.{Conflict}

-- the entry names one of the agents
pub record NamesOne (agents : List ℕ) (entry : Conflict) : Type 0 where
  pub agent : ℕ
  pub among : Contains agents agent
  pub named : Names entry agent

-- the entries are exactly those that stand in the fleet and name the agent
abbrev pub HasNamed : Fleet → ℕ → List Conflict → Type 0
HasNamed fleet agent entries = (entry : Conflict) → Contains entries entry ↔ (Stands fleet entry × Names entry agent)

-- exactly those that stand in the fleet and name one of the agents
abbrev pub HasNamedOnes : Fleet → List ℕ → List Conflict → Type 0
HasNamedOnes fleet agents entries = (entry : Conflict) → Contains entries entry ↔ (Stands fleet entry × NamesOne agents entry)

-- and they are listed in order, each once
abbrev pub AreNamed : Fleet → List ℕ → List Conflict → Type 0
AreNamed fleet agents entries = ListsAll listing_key (λ entry. Stands fleet entry × NamesOne agents entry) entries

-- so it is of each fleet for which the index stands and that has that route for the agent
abbrev pub WhereOn : Contents → ℕ → Route → (Fleet → Type 0) → Type 0
WhereOn index agent route holds = (fleet : Fleet) → StandsFor index fleet → fleet agent ≡ Some route → holds fleet
