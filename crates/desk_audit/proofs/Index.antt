-- The shares of an index, in turn.
use Rattle.std.proofs.Common.{◌≡◌, ℕ, zero, suc, ◌+◌, ◌%◌, ◌<◌, List, [], ◌∷◌, ◌++◌, length, map, Some, refl, sym, ap, subst, ◌∙◌, ◌⊎◌, inl, inr, arith}
use Rattle.std.specs.List.{slice_get}
use Rattle.std.proofs.lemmas.Nat.{mod_below}
use Rattle.std.proofs.lemmas.Option.{none-some, same_Some, slice_get_cases}
use Rattle.plan_table.specs.Route.{Fleet}
use Rattle.scene_edits.specs.Scene.{SceneState}
use Rattle.desk_audit.specs.Index.{AreFiled, AreShares, IsIndexOf, IsShareOf, share_of}
use Rattle.desk_audit.specs.Pieces.{Counts}
use Rattle.desk_audit.specs.declared.indexing.Sought.{Sought}
use Rattle.desk_audit.specs.declared.sightings.Sightings.{Sightings}

pub index_filed : (fleet : Fleet) (index : List Sightings) → IsIndexOf fleet index → AreFiled index
index_filed fleet index is k share at = let filed = is.shares k share at in (filed.moments_filed, filed.rests_filed, filed.passes_filed)

-- each time has a share
pub some_share : (index : List Sightings) → 0 < length index → (time : ℕ) → (share : Sightings) × (slice_get index (time % length index) ≡ Some share)
some_share index some time = elim (slice_get_cases index (time % length index)).1 [
  | inl found ↦ (found.0, found.2)
  | inr past ↦ absurd (omega (arith, past.0, mod_below time (length index) some))
]

pushed_cases : {X : Type 0} (xs : List X) (x y : X) (k : ℕ) → slice_get (xs ++ (x ∷ [])) k ≡ Some y → (slice_get xs k ≡ Some y) ⊎ ((k ≡ length xs) × (x ≡ y))
pushed_cases [] x y zero at = inr (refl, same_Some x y at)
pushed_cases [] x y (suc k) at = absurd (none-some y at)
pushed_cases (z ∷ xs) x y zero at = inl at
pushed_cases (z ∷ xs) x y (suc k) at = elim (pushed_cases xs x y k at) [
  | inl before ↦ inl before
  | inr here ↦ inr (omega (arith, here.0), here.1)
]

-- a share is put after those before it
pub shares_pushed : (fleet : Fleet) (many : ℕ) (index : List Sightings) (next : Sightings) → AreShares fleet many index → IsShareOf fleet (share_of many (length index)) next → AreShares fleet many (index ++ (next ∷ []))
shares_pushed fleet many index next are is k share at = elim (pushed_cases index next share k at) [
  | inl before ↦ are k share before
  | inr here ↦ subst (λ (s : Sightings). IsShareOf fleet (share_of many k) s) here.1 (subst (λ (n : ℕ). IsShareOf fleet (share_of many n) next) (sym here.0) is)
]

pub shares_none : (fleet : Fleet) (many : ℕ) → AreShares fleet many []
shares_none fleet many k share at = absurd (none-some share at)

-- all shares are an index
pub shares_all : (fleet : Fleet) (many : ℕ) (index : List Sightings) → 0 < many → length index ≡ many → AreShares fleet many index → IsIndexOf fleet index
shares_all fleet many index some long are = record {
  some = omega (arith, some, long);
  shares = subst (λ (n : ℕ). AreShares fleet n index) (sym long) are;
}

pub counts-more : (scene : SceneState) (many a b : ℕ) (ss : List Sought) (s : Sought) → Counts scene many a ss b → s.scene.now ≡ scene → s.share ≡ share_of many b → Counts scene many a (ss ++ (s ∷ [])) (b + 1)
counts-more scene many a b [] s t is has = (is, has ∙ ap (λ (n : ℕ). share_of many n) (sym t), ap (λ (n : ℕ). n + 1) t)
counts-more scene many a b (q ∷ ss) s t is has = (t.0, t.1, counts-more scene many (a + 1) b ss s t.2 is has)

-- where none is sought, the end is where they begin
pub counts_none : {X : Type 0} (of : X → Sought) (scene : SceneState) (many a b : ℕ) (xs : List X) → length xs ≡ 0 → Counts scene many a (map of xs) b → a ≡ b
counts_none of scene many a b [] none t = t
counts_none of scene many a b (x ∷ xs) none t = absurd (omega (arith, none))
