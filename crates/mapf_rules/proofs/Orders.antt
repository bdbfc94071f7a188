-- What follows from the order in which entries are listed.
use Rattle.std.proofs.Common.{◌≡◌, ◌∙◌, refl, sym, List, [], ◌∷◌, subst, arith, true}
use Rattle.std.specs.List.{AllPairs}
use Rattle.std.specs.List.Sorted.{IsStrictlySortedBy}
use Rattle.std.specs.Cmp.{IsTotalOrder}
use Rattle.std.specs.Ordering.{ordering_then}
use Rattle.std.specs.declared.cmp.Ordering.{Ordering}
use Rattle.std.specs.declared.cmp.Ordering.TheVariants.{Less, Equal, Greater}
use Rattle.std.proofs.lemmas.List.Elements.{All-from_recursion}
use Rattle.std.proofs.lemmas.List.Kept.{AllPairs-cons}
use Rattle.std.proofs.lemmas.Map.Lookups.{CmpEqualImpliesEq, exact_bytes}
use Rattle.std.proofs.lemmas.Map.Views.{tells_apart}
use Rattle.mapf_rules.specs.ConflictList.{listing_key}
use Rattle.mapf_rules.specs.ConflictList.{IsListed}
use Rattle.mapf_rules.specs.Laws.{EntriesCompareAsListed}
use Rattle.mapf_rules.specs.declared.entries.Conflict.{Conflict}
use Rattle.mapf_rules.specs.declared.entries.Conflict.TheVariants.{Vertex, Parked, Edge, Following, Swapping, Cycle}
use Rattle.mapf_rules.specs.contracts.entries.ConflictOrd.TheImpl as order
use Rattle.mapf_rules.specs.contracts.entries.ConflictOrd.TheImpl.Laws as laws
use Rattle.mapf_rules.specs.contracts.entries.ConflictPartialEq.TheImpl as equality

-- ---- the order of the declaration is that of the keys
then_equal : (p : Ordering) → ordering_then p Equal ≡ p
then_equal Less = refl
then_equal Equal = refl
then_equal Greater = refl

then_then : (p q r : Ordering) → ordering_then (ordering_then p q) r ≡ ordering_then p (ordering_then q r)
then_then Less q r = refl
then_then Equal q r = refl
then_then Greater q r = refl

-- (the clause of two rings stands before the last one, which so splits the second entry too)
pub conflict_cmp-is : EntriesCompareAsListed
conflict_cmp-is (Vertex t f s c) (Vertex t' f' s' c') = simp then_equal
conflict_cmp-is (Parked t f s c) (Parked t' f' s' c') = simp then_equal
conflict_cmp-is (Edge t f s c n) (Edge t' f' s' c' n') = simp (then_equal, then_then)
conflict_cmp-is (Following t f s c) (Following t' f' s' c') = simp then_equal
conflict_cmp-is (Swapping t f s c n) (Swapping t' f' s' c' n') = simp (then_equal, then_then)
conflict_cmp-is (Cycle t r) (Cycle t' r') = refl
conflict_cmp-is a b = refl

-- ---- entries that ascend by their own order are listed in order
pub pairs_ascend : {X : Type 0} (R : X → X → Ordering) (xs : List X) → IsStrictlySortedBy R xs → AllPairs (λ x y. R x y ≡ Less) xs
unfolding IsStrictlySortedBy
pairs_ascend R [] sorted = λ i j d lt within. absurd (omega arith)
pairs_ascend R (x ∷ xs) sorted = AllPairs-cons (λ x y. R x y ≡ Less) x xs (All-from_recursion (λ y. R x y ≡ Less) xs sorted.0) (pairs_ascend R xs sorted.1)

pub entries_ascend : (entries : List Conflict) → IsStrictlySortedBy order.ghosts.cmp entries → IsListed entries
entries_ascend entries sorted = pairs_ascend _ entries (subst (λ R. IsStrictlySortedBy R entries) (λ i a b. conflict_cmp-is a b i) sorted)

-- ---- entries that are equal by their own order are one
-- entries with one key are one
listing_key-injective : (a b : Conflict) → listing_key a ≡ listing_key b → a ≡ b
listing_key-injective (Cycle x r) (Cycle x' r') e = cc
listing_key-injective a b e = grind arith

pub conflict_total : IsTotalOrder order.ghosts.cmp
conflict_total = laws.total-law

pub conflict_exact : CmpEqualImpliesEq order.ghosts.cmp
conflict_exact a b e = listing_key-injective a b (exact_bytes (listing_key a) (listing_key b) (sym (conflict_cmp-is a b) ∙ e))

-- where `==` says so, too
pub conflict_same : (a b : Conflict) → equality.ghosts.eq a b ≡ true → a ≡ b
conflict_same a b e = tells_apart conflict_exact a b (sym (laws.matches_eq-law a b) ∙ e)
