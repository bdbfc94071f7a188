-- Going over a journal from its end: which things no later entry names.
use Rattle.std.proofs.Common.{◌≡◌, ℕ, ◌-◌, ◌<◌, inl, inr, List, length, Some, arith}
use Rattle.std.specs.List.{slice_get}
use Rattle.std.proofs.lemmas.Bool.{cases_order}
use Rattle.std.proofs.lemmas.Option.{slice_get_within}
use Rattle.scene_edits.specs.declared.changes.Thing.{Thing}
use Rattle.desk_commits.specs.Entries.{Entry, EntryNames}
use Rattle.desk_commits.specs.Stale.{IsFreshSince}

-- no entry comes after the last one
pub fresh_at_end : (journal : List Entry) (thing : Thing) → IsFreshSince journal (length journal) thing
fresh_at_end journal thing number newer named = omega (arith, named.counted, slice_get_within journal (number - 1) named.entry named.there)

-- where an entry doesn't name the thing, and no later one does
pub fresh_before : (journal : List Entry) (thing : Thing) (number : ℕ) (entry : Entry) → 0 < number → slice_get journal (number - 1) ≡ Some entry → (EntryNames entry thing → ⊥) → IsFreshSince journal number thing → IsFreshSince journal (number - 1) thing
fresh_before journal thing number entry counted there apart fresh other newer named =
    elim (cases_order number other) [
      | inl same ↦ let is : named.entry ≡ entry = grind arith in apart (rw is at named.names)
      | inr (inl later) ↦ fresh other later named
      | inr (inr sooner) ↦ absurd (omega (arith, newer))
    ]
