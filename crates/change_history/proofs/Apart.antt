-- What came and went, one element further.
use Rattle.std.proofs.Common.{◌≡◌, ◌⊎◌, inl, inr, List, [], Contains, sym, subst}
use mathlib.Core.Logic.{◌↔◌}
use Rattle.std.specs.Cmp.{IsTotalOrder}
use Rattle.std.specs.declared.cmp.Ordering.{Ordering}
use Rattle.std.proofs.lemmas.Map.Lookups.{CmpEqualImpliesEq}
use Rattle.plan_table.specs.Sets.{Gains, Loses}
use Rattle.change_history.specs.Moved.{AreApart, Crosses, MovesLeadOn}
use Rattle.change_history.proofs.Telling.{one_or_not, in_or_not}

module _ {X : Type 0} (first old new came gone left got : List X) (item : X) (is : AreApart first old came gone) where
  -- an element comes to a set that hadn't it
  pub apart_come : (Contains old item → ⊥) → Gains old new item → Crosses gone came item left got → AreApart first new got left
  apart_come fresh gains crosses = record {
    came_is = λ x. (
      λ h. elim ((crosses.goes_in x).0 h) [
        | inl c ↦ let w = (is.came_is x).0 c in ((gains x).1 (inl w.0), w.1)
        | inr w ↦ ((gains x).1 (inr w.0), λ f. w.1 ((is.gone_is item).1 (subst (Contains first) w.0 f, fresh)))
      ],
      λ w. (crosses.goes_in x).1 (elim ((gains x).0 w.0) [
        | inl o ↦ inl ((is.came_is x).1 (o, w.1))
        | inr same ↦ inr (same, λ g. w.1 (subst (Contains first) (sym same) ((is.gone_is item).0 g).0))
      ]),
    );
    gone_is = λ x. (
      λ h. let g = (crosses.leaves x).0 h in let w = (is.gone_is x).0 g.0 in (w.0, λ n. elim ((gains x).0 n) [ inl o ↦ w.1 o | inr same ↦ g.1 same ]),
      λ w. (crosses.leaves x).1 ((is.gone_is x).1 (w.0, λ o. w.1 ((gains x).1 (inl o))), λ same. w.1 ((gains x).1 (inr same))),
    );
  }

  -- an element goes from a set that had it
  pub apart_go : {R : X → X → Ordering} → IsTotalOrder R → CmpEqualImpliesEq R → Contains old item → Loses old new item → Crosses came gone item left got → AreApart first new left got
  apart_go o exact there loses crosses = record {
    came_is = λ x. (
      λ h. let c = (crosses.leaves x).0 h in let w = (is.came_is x).0 c.0 in ((loses x).1 (w.0, c.1), w.1),
      λ w. let n = (loses x).0 w.0 in (crosses.leaves x).1 ((is.came_is x).1 (n.0, w.1), n.1),
    );
    gone_is = λ x. (
      λ h. elim ((crosses.goes_in x).0 h) [
        | inl g ↦ let w = (is.gone_is x).0 g in (w.0, λ n. w.1 ((loses x).0 n).0)
        | inr w ↦
            let was : Contains first item = elim (in_or_not o exact first item) [ inl f ↦ f | inr none ↦ absurd (w.1 ((is.came_is item).1 (there, none))) ] in
            (subst (Contains first) (sym w.0) was, λ n. ((loses x).0 n).1 w.0)
      ],
      λ w. (crosses.goes_in x).1 (elim (one_or_not o exact x item) [
        | inl same ↦ inr (same, λ c. ((is.came_is item).0 c).1 (subst (Contains first) same w.0))
        | inr apart ↦ inl ((is.gone_is x).1 (w.0, λ was. w.1 ((loses x).1 (was, apart))))
      ]),
    );
  }

-- ---- an element crosses from one set to another
pub new_in : {X : Type 0} → (from to got : List X) (item : X) → Gains to got item → (Contains from item → ⊥) → (x : X) → Contains got x ↔ (Contains to x ⊎ ((x ≡ item) × (Contains from item → ⊥)))
new_in from to got item gains absent x = (
  λ h. elim ((gains x).0 h) [ inl t ↦ inl t | inr same ↦ inr (same, absent) ],
  λ h. (gains x).1 (elim h [ inl t ↦ inl t | inr w ↦ inr w.0 ]),
)

pub kept_in : {X : Type 0} → (from to : List X) (item : X) → Contains from item → (x : X) → Contains to x ↔ (Contains to x ⊎ ((x ≡ item) × (Contains from item → ⊥)))
kept_in from to item held x = (λ h. inl h, λ h. elim h [ inl t ↦ t | inr w ↦ absurd (w.1 held) ])

-- ---- the law of moves
pub lead_on : {X : Type 0} {R : X → X → Ordering} → IsTotalOrder R → CmpEqualImpliesEq R → MovesLeadOn X
lead_on o exact old new came gone is x = (
  λ h. elim (in_or_not o exact old x) [
    | inl was ↦ inl (was, λ went. ((is.gone_is x).0 went).1 h)
    | inr fresh ↦ inr ((is.came_is x).1 (h, fresh))
  ],
  λ h. elim h [
    | inr comes ↦ ((is.came_is x).0 comes).0
    | inl stays ↦ elim (in_or_not o exact new x) [ inl there ↦ there | inr none ↦ absurd (stays.1 ((is.gone_is x).1 (stays.0, none))) ]
  ],
)
