-- Elements that an order tells apart are in a set or not.
use Rattle.std.specs.BTreeSet as sorted
use Rattle.std.specs.BTreeSet.{BTreeSet}
use Rattle.std.proofs.lemmas.Map.Views.{btree_set_contains_iff}
use mathlib.Core.Logic.{◌↔◌}
use Rattle.plan_table.specs.Sets.{Gains}
use Rattle.std.proofs.Common.{◌≡◌, ◌⊎◌, inl, inr, ℕ, zero, suc, ◌+◌, List, [], ◌∷◌, Contains, Bool, true, false, refl, sym, ap, subst, ◌∙◌, arith}
use Rattle.std.specs.Cmp.{IsTotalOrder}
use Rattle.std.specs.Ordering.{is_eq}
use Rattle.std.specs.declared.cmp.Ordering.{Ordering}
use Rattle.std.specs.declared.cmp.Ordering.TheVariants.{Equal}
use Rattle.std.proofs.lemmas.Map.Lookups.{CmpEqualImpliesEq}
use Rattle.std.proofs.lemmas.Cmp.{tied_itself}
use Rattle.plan_table.proofs.Order.{Contains-nil, Contains-cons_head, Contains-cons_tail, Contains-cons_cases}
use Rattle.plan_table.proofs.Sets.{tied_or_not}

module _ {X : Type 0} {R : X → X → Ordering} (o : IsTotalOrder R) (exact : CmpEqualImpliesEq R) where
  -- two elements are one or not
  pub one_or_not : (a b : X) → (a ≡ b) ⊎ (a ≡ b → ⊥)
  one_or_not a b = elim (tied_or_not (R a b)) [
    | inl tied ↦ inl (exact a b tied)
    | inr apart ↦ inr (λ same. let tied : R a b ≡ Equal = subst (λ y. R a y ≡ Equal) same (tied_itself o a) in let no : true ≡ false = sym (ap is_eq tied) ∙ apart in cc)
  ]

  -- a set has the element or not
  pub in_or_not : (xs : List X) (a : X) → Contains xs a ⊎ (Contains xs a → ⊥)
  in_or_not [] a = inr (Contains-nil a)
  in_or_not (x ∷ xs) a = elim (one_or_not x a) [
    | inl same ↦ inl (subst (Contains (x ∷ xs)) same (Contains-cons_head x xs))
    | inr apart ↦ elim (in_or_not xs a) [
      | inl h ↦ inl (Contains-cons_tail x xs a h)
      | inr none ↦ inr (λ h. elim (Contains-cons_cases x xs a h) [ inl same ↦ apart same | inr more ↦ none more ])
    ]
  ]

  -- a key that a removal found was there, and one that it didn't find was not
  pub set_held : (s : BTreeSet X) (k : X) (b : Bool) → b ≡ sorted.contains R s k → b ≡ true → Contains s.keys k
  set_held s k b e found = grind (arith, btree_set_contains_iff o exact s k)

  pub set_absent : (s : BTreeSet X) (k : X) (b : Bool) → b ≡ sorted.contains R s k → b ≡ false → Contains s.keys k → ⊥
  set_absent s k b e none has = grind (arith, btree_set_contains_iff o exact s k)
