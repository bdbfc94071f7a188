-- What a ledger keeps: entries in the order in which they are listed (this project's choice).
use Rattle.std.specs.Prelude.{◌≡◌, ◌≢◌, ◌⊎◌, ◌↔◌, ℕ, Bool, true, false, List, Contains}
use Rattle.std.specs.List.{count_by}
use Rattle.plan_table.specs.Order.{ComesBefore}
use Rattle.plan_table.specs.Route.{Fleet}
use Rattle.mapf_rules.specs.ConflictList.{Stands, kind_of, listing_key}
use Rattle.mapf_rules.specs.declared.entries.Kind.{Kind}
use Rattle.mapf_rules.specs.declared.entries.Conflict.{Conflict}
use Rattle.mapf_rules.specs.declared.entries.Kind.TheVariants.{Vertex, Parked, Edge, Following, Swapping, Cycle}

-- whether two kinds are one
abbrev pub is_that_kind : Kind → Kind → Bool
is_that_kind Vertex Vertex = true
is_that_kind Parked Parked = true
is_that_kind Edge Edge = true
is_that_kind Following Following = true
is_that_kind Swapping Swapping = true
is_that_kind Cycle Cycle = true
is_that_kind kind other = false

-- how many entries are of that kind
abbrev pub many_of : Kind → List Conflict → ℕ
many_of kind entries = count_by (λ entry. is_that_kind (kind_of entry) kind) entries

-- an entry is of that kind
abbrev pub HasKind : Kind → List Conflict → Type 0
HasKind kind entries = (entry : Conflict) × Contains entries entry × (kind_of entry ≡ kind)

-- no entry of that kind is listed before this one, which is of the kind
pub record IsLeastOf (kind : Kind) (least : Conflict) : Type 0 where
  pub kind_is : kind_of least ≡ kind
  pub none_before : (entry : Conflict) → kind_of entry ≡ kind → ComesBefore (listing_key entry) (listing_key least) → ⊥

-- new has that entry, and those of old
abbrev pub GainsEntry : List Conflict → List Conflict → Conflict → Type 0
GainsEntry old new added = (entry : Conflict) → Contains new entry ↔ (Contains old entry ⊎ (entry ≡ added))

-- new has the entries of old but for that one
abbrev pub LosesEntry : List Conflict → List Conflict → Conflict → Type 0
LosesEntry old new lost = (entry : Conflict) → Contains new entry ↔ (Contains old entry × (entry ≢ lost))

-- new has the entries of old and those
abbrev pub GainsAll : List Conflict → List Conflict → List Conflict → Type 0
GainsAll old new added = (entry : Conflict) → Contains new entry ↔ (Contains old entry ⊎ Contains added entry)

-- new has the entries of old but for those
abbrev pub LosesAll : List Conflict → List Conflict → List Conflict → Type 0
LosesAll old new lost = (entry : Conflict) → Contains new entry ↔ (Contains old entry × (Contains lost entry → ⊥))

-- the entries kept are exactly those that stand in the fleet
abbrev pub HasEntries : List Conflict → Fleet → Type 0
HasEntries kept fleet = (entry : Conflict) → Contains kept entry ↔ Stands fleet entry
