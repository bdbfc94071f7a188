-- Only agents that changes name are kept while the changes are taken back.
use Rattle.std.proofs.Common.{◌≡◌, ◌⊎◌, Result, Ok, Err, OnOk, inl, inr, ℕ, suc, ◌+◌, ◌<◌, List, ◌∷◌, All, map, drop, get_or, length, refl, sym, subst, arith}
use Rattle.std.specs.List.{Contains}
use Rattle.std.specs.Ordering.{nat_cmp}
use Rattle.std.specs.Map.{keys_of}
use Rattle.std.specs.BTreeMap.{insert_entry}
use Rattle.std.proofs.lemmas.List.{get_or-map, length-map}
use Rattle.std.proofs.lemmas.List.Elements.{All-weaker, All-contains, All-contains_itself, All-map}
use Rattle.std.proofs.lemmas.Map.Views.{All-keys-insert_entry}
use Rattle.scene_edits.specs.declared.changes.Change.{Change}
use Rattle.scene_edits.specs.Named.{NamesAgent, IsNamed, JoinBy}
use Rattle.scene_edits.specs.Formers.{former_of}
use Rattle.scene_edits.specs.declared.named_agents.Former.{Former}
use Rattle.scene_edits.specs.declared.taking_back.Kept.{Kept}
use Rattle.scene_edits.proofs.RowsBefore.{drop_one}

-- one more key
pub keys-kept : (entries : List (ℕ × Kept)) (agent : ℕ) (kept : Kept) → All (λ key. Contains (keys_of entries) key ⊎ (agent ≡ key)) (keys_of (insert_entry nat_cmp entries agent kept))
keys-kept entries agent kept =
    let P : ℕ → Type 0 = λ key. Contains (keys_of entries) key ⊎ (agent ≡ key) in
    All-keys-insert_entry nat_cmp agent kept P entries (All-weaker (Contains (keys_of entries)) P (λ key there. inl there) (keys_of entries) (All-contains_itself (keys_of entries))) (inr refl)

-- one more key, which the change names
pub keys-joined : {T E : Type 0} (result : Result T E) (change : Change) (agent : ℕ) (old new : List ℕ) → NamesAgent change agent → OnOk result (All (λ key. Contains old key ⊎ (agent ≡ key)) new) → OnOk result (JoinBy change old new)
keys-joined (Ok done) change agent old new names added =
    All-weaker (λ key. Contains old key ⊎ (agent ≡ key)) (λ key. Contains old key ⊎ NamesAgent change key) (λ key told. elim told [ inl there ↦ inl there | inr is ↦ inr (subst (NamesAgent change) is names) ]) new added
keys-joined (Err refused) change agent old new names added = tt

-- no key more
pub keys-same : (change : Change) (keys : List ℕ) → JoinBy change keys keys
keys-same change keys = All-weaker (Contains keys) (λ key. Contains keys key ⊎ NamesAgent change key) (λ key there. inl there) keys (All-contains_itself keys)

later : (change : Change) (changes : List Change) (agent : ℕ) → IsNamed changes agent → IsNamed (change ∷ changes) agent
later change changes agent (of, (k, within, is), names) = (of, (suc k, omega arith, is), names)

first : (change : Change) (changes : List Change) (agent : ℕ) → NamesAgent change agent → IsNamed (change ∷ changes) agent
first change changes agent names = (change, (0, omega arith, refl), names)

-- one more change taken back
pub named-more : (changes : List Change) (at left : ℕ) (change : Change) (old new : List ℕ) → at < length changes → at + 1 ≡ left → change ≡ get_or changes at change → All (IsNamed (drop left changes)) old → JoinBy change old new → All (IsNamed (drop at changes)) new
named-more changes at left change old new within next is named joined =
    subst (λ (list : List Change). All (IsNamed list) new) (sym (drop_one changes at left change within next is))
    (All-weaker (λ key. Contains old key ⊎ NamesAgent change key) (IsNamed (change ∷ drop left changes)) (λ key told. elim told [
      | inl there ↦ later change (drop left changes) key (All-contains (IsNamed (drop left changes)) old key named there)
      | inr names ↦ first change (drop left changes) key names
    ]) new joined)

-- the agents listed are the keys
pub named_formers : (changes : List Change) (entries : List (ℕ × Kept)) → All (IsNamed changes) (keys_of entries) → All (λ (former : Former). IsNamed changes former.agent) (map former_of entries)
named_formers changes entries named = All-map (λ (former : Former). IsNamed changes former.agent) former_of entries (λ k d within.
    let key : ℕ × Kept → ℕ = λ e. e.0 in
    subst (IsNamed changes) (get_or-map key entries k d 0 within) (named k 0 (omega (arith, length-map entries key))))
