-- Where the entries of one kind stand in the order of all.
use Rattle.std.proofs.lemmas.Bool.Decides.{nat_tests}
use Rattle.std.proofs.Common.{◌≡◌, ◌≤◌, ◌<◌, ℕ, zero, suc, List, [], ◌∷◌, Bool, true, false, Contains, length, refl, IsTrue, sym, ap, ◌∙◌, subst, arith}
use mathlib.Core.Logic.{◌↔◌}
use mathlib.Core.Bool.{false≢true}
use Rattle.std.specs.BTreeSet as sorted
use Rattle.std.specs.BTreeSet.{BTreeSet}
use Rattle.std.specs.BTreeMap.Range.{IsLeBy}
use Rattle.std.specs.Cmp.Lexicographic.{slice_cmp}
use Rattle.std.specs.Ordering.{nat_cmp, ordering_then, is_gt, MatchOrdering}
use Rattle.std.specs.declared.cmp.Ordering.{Ordering}
use Rattle.std.specs.declared.cmp.Ordering.TheVariants.{Less, Equal, Greater}
use Rattle.std.specs.declared.ops.Bound.TheVariants.{Included, Unbounded}
use Rattle.std.proofs.lemmas.Cmp.{ranked}
use Rattle.std.proofs.lemmas.Map.Views.{btree_set_contains_iff}
use Rattle.mapf_rules.specs.ConflictList.{kind_of, listing_key}
use Rattle.conflict_ledger.specs.Kept.{HasKind, IsLeastOf}
use Rattle.mapf_rules.specs.declared.entries.Conflict.{Conflict}
use Rattle.mapf_rules.specs.declared.entries.Conflict.TheVariants.{Cycle}
use Rattle.mapf_rules.specs.declared.entries.Kind.{Kind}
use Rattle.mapf_rules.specs.declared.entries.Kind.TheVariants as kinds
use Rattle.mapf_rules.specs.contracts.entries.ConflictOrd.TheImpl as order
use Rattle.mapf_rules.proofs.Orders.{conflict_cmp-is, conflict_total, conflict_exact}

-- ---- comparing lists of numbers
after_tie : (c o : Ordering) → (c ≡ Less → ⊥) → ordering_then c o ≡ Less → o ≡ Less
after_tie Less o not_less e = absurd (not_less refl)
after_tie Equal o not_less e = e
after_tie Greater o not_less e = absurd (cc)

-- so many zeros
abbrev pub zeros : ℕ → List ℕ
zeros zero = []
zeros (suc many) = 0 ∷ zeros many

-- no list of as many numbers is before that of zeros
pub none_before_zeros : (many : ℕ) (ns : List ℕ) → many ≤ length ns → slice_cmp nat_cmp ns (zeros many) ≡ Less → ⊥
none_before_zeros zero [] long e = cc
none_before_zeros zero (n ∷ ns) long e = cc
none_before_zeros (suc many) [] long e = omega arith
none_before_zeros (suc many) (n ∷ ns) long e =
    let not_less : nat_cmp n 0 ≡ Less → ⊥ = (λ lt. let below : n < 0 = subst (λ o. MatchOrdering o (n < 0) (n ≡ 0) (0 < n)) lt (ranked n 0 (nat_cmp n 0) refl) in omega arith) in
    none_before_zeros many ns (omega arith) (after_tie (nat_cmp n 0) (slice_cmp nat_cmp ns (zeros many)) not_less e)

-- ---- kinds in the order in which they are listed
abbrev kind_rank : Kind → ℕ
kind_rank kinds.Vertex = 0
kind_rank kinds.Parked = 1
kind_rank kinds.Edge = 2
kind_rank kinds.Following = 3
kind_rank kinds.Swapping = 4
kind_rank kinds.Cycle = 5

one_rank : (a b : Kind) → kind_rank a ≡ kind_rank b → a ≡ b
one_rank kinds.Vertex kinds.Vertex e = refl
one_rank kinds.Parked kinds.Parked e = refl
one_rank kinds.Edge kinds.Edge e = refl
one_rank kinds.Following kinds.Following e = refl
one_rank kinds.Swapping kinds.Swapping e = refl
one_rank kinds.Cycle kinds.Cycle e = refl
one_rank a b e = absurd (omega arith)

kinds_rise : (a b : Conflict) → IsLeBy order.ghosts.cmp a b → kind_rank (kind_of a) ≤ kind_rank (kind_of b)
kinds_rise a b le = grind (arith, nat_tests)

-- no ring at a time is before the empty one at time 0
pub least_cycle : (kind : Kind) (time : ℕ) (ring : List ℕ) → kind ≡ kinds.Cycle → time ≡ 0 → ring ≡ [] → IsLeastOf kind (Cycle time ring)
least_cycle kind time ring cycle start empty = record {
  kind_is = sym cycle;
  none_before = λ entry same before. none_before_cycle entry (same ∙ cycle) (subst (λ (t : ℕ). slice_cmp nat_cmp (listing_key entry) (5 ∷ t ∷ []) ≡ Less) start (subst (λ (r : List ℕ). slice_cmp nat_cmp (listing_key entry) (5 ∷ time ∷ r) ≡ Less) empty before));
}
  where
    none_before_cycle : (entry : Conflict) → kind_of entry ≡ kinds.Cycle → slice_cmp nat_cmp (listing_key entry) (5 ∷ 0 ∷ []) ≡ Less → ⊥
    none_before_cycle (Cycle t r) same before = none_before_zeros 1 (t ∷ r) (omega arith) before
    none_before_cycle entry same before = cc

-- the least entry of a kind is not after another of it
not_after : (kind : Kind) (least entry : Conflict) → IsLeastOf kind least → kind_of entry ≡ kind → IsLeBy order.ghosts.cmp least entry
not_after kind least entry is same = go (order.ghosts.cmp least entry) refl
  where
    go : (c : Ordering) → order.ghosts.cmp least entry ≡ c → is_gt (order.ghosts.cmp least entry) ≡ false
    go Less e = ap is_gt e
    go Equal e = ap is_gt e
    go Greater e =
        let turned : order.ghosts.cmp entry least ≡ Less = conflict_total.antisymm entry least ∙ rw e refl in
        absurd (is.none_before entry same (sym (conflict_cmp-is entry least) ∙ turned))

-- ---- the first entry from the least of a kind on tells whether the set has one of it
module _ (set : BTreeSet Conflict) (kind : Kind) (least : Conflict) (is : IsLeastOf kind least) (part : List Conflict) (range : sorted.IsKeyRangeOf order.ghosts.cmp (Included least) Unbounded set part) where
  in_set : (entry : Conflict) → Contains set.keys entry → sorted.contains order.ghosts.cmp set entry ≡ true
  in_set entry has = (btree_set_contains_iff conflict_total conflict_exact set entry).1 has

  pub none_of_kind : part ≡ [] → HasKind kind set.keys → ⊥
  none_of_kind none (entry, has, same) =
      let absent : sorted.contains order.ghosts.cmp set entry ≡ false = range.5 none entry (not_after kind least entry is same, tt) in
      let wrong : true ≡ false = sym (in_set entry has) ∙ absent in
      cc

  module _ (first : Conflict) (rest : List Conflict) (begins : part ≡ first ∷ rest) where
    at_first : sorted.IsKeyRangeOf order.ghosts.cmp (Included least) Unbounded set (first ∷ rest)
    at_first = subst (λ (p : List Conflict). sorted.IsKeyRangeOf order.ghosts.cmp (Included least) Unbounded set p) begins range

    first_of_kind : kind_of first ≡ kind → HasKind kind set.keys
    first_of_kind same = (first, (btree_set_contains_iff conflict_total conflict_exact set first).0 at_first.1.1, same)

    first_of_other : (kind_of first ≡ kind → ⊥) → HasKind kind set.keys → ⊥
    first_of_other other (entry, has, same) =
        let up : kind_rank (kind_of least) ≤ kind_rank (kind_of first) = kinds_rise least first at_first.1.0.0 in
        let down : kind_rank (kind_of first) ≤ kind_rank (kind_of entry) = kinds_rise first entry (at_first.2 entry (not_after kind least entry is same, tt) (in_set entry has)) in
        other (one_rank (kind_of first) kind (omega (arith, up, down, ap kind_rank is.kind_is, ap kind_rank same)))

    -- so the set has one of the kind exactly where that entry is
    pub told_by_first : (yes : Bool) → (yes ≡ true ↔ (kind_of first ≡ kind)) → IsTrue yes ↔ HasKind kind set.keys
    told_by_first true means = ((λ _. first_of_kind (means.0 refl)), (λ _. refl))
    told_by_first false means = ((λ wrong. absurd (false≢true wrong)), (λ has. absurd (first_of_other (λ same. false≢true (means.1 same)) has)))
