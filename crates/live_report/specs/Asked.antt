-- Entries of the kinds that are asked about (this project's choice of words).
use Rattle.std.specs.Prelude.{List, IsTrue}
use Rattle.conflict_ledger.specs.Kept.{HasKind}
use Rattle.mapf_rules.specs.declared.entries.Conflict.{Conflict}
use Rattle.mapf_rules.specs.declared.entries.Kind.{Kind}
use Rattle.mapf_rules.specs.Kinds.{is_named}
use Rattle.mapf_rules.specs.declared.kinds.Kinds.{Kinds}

-- the kind is asked about, and an entry is of it
abbrev pub HasAsked : Kinds → Kind → List Conflict → Type 0
HasAsked kinds kind entries = IsTrue (is_named kinds kind) × HasKind kind entries

-- an entry is of a kind that is asked about
abbrev pub HasAnyAsked : Kinds → List Conflict → Type 0
HasAnyAsked kinds entries = (kind : Kind) × HasAsked kinds kind entries
