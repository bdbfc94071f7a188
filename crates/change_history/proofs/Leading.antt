-- Records that lead from one set to another.
use Rattle.std.proofs.Common.{◌≡◌, ◌⊎◌, inl, inr, ℕ, ◌+◌, List, [], ◌∷◌, ◌++◌, length, map, Contains, Bool, true, false, refl, sym, ap, subst, ◌∙◌, arith, length-append}
use mathlib.Core.Logic.{◌↔◌}
use Rattle.std.specs.Cmp.{IsTotalOrder}
use Rattle.std.specs.List.{All}
use Rattle.std.specs.List.Sorted.{IsStrictlySortedBy}
use Rattle.std.specs.declared.cmp.Ordering.{Ordering}
use Rattle.std.specs.declared.cmp.Ordering.TheVariants.{Less, Equal}
use Rattle.std.proofs.lemmas.Cmp.{tied_itself}
use Rattle.std.proofs.lemmas.List.Elements.{All-contains, Contains-append_left, Contains-append_right, Contains-append_cases}
use Rattle.std.proofs.lemmas.List.{length-map}
use Rattle.std.proofs.lemmas.Map.Lookups.{CmpEqualImpliesEq}
use Rattle.std.proofs.lemmas.Map.Views.{All-after_first}
use Rattle.plan_table.specs.Sets.{Gains, Loses}
use Rattle.change_history.specs.declared.records.Record.{Record}
use Rattle.change_history.specs.Moved.{Moved, AreApart, Tell}
use Rattle.change_history.specs.Leading.{Turns, AreSame, Lead, Counts, AreRecords}
use Rattle.plan_table.proofs.Order.{Contains-nil, Contains-cons_head, Contains-cons_tail, Contains-cons_cases}
use Rattle.change_history.proofs.Telling.{in_or_not}

pub same_refl : {X : Type 0} → (a : List X) → AreSame a a
same_refl a x = (λ h. h, λ h. h)

turns_from_same : {X : Type 0} → (a b c : List X) (came : Bool) (item : X) → AreSame a b → Turns b c came item → Turns a c came item
turns_from_same a b c true item same turns = (
  λ h. turns.0 ((same item).1 h),
  λ x. (λ h. elim ((turns.1 x).0 h) [ inl w ↦ inl ((same x).0 w) | inr s ↦ inr s ], λ h. (turns.1 x).1 (elim h [ inl w ↦ inl ((same x).1 w) | inr s ↦ inr s ])),
)
turns_from_same a b c false item same turns = ((same item).0 turns.0, λ x. (λ h. let w = (turns.1 x).0 h in ((same x).0 w.0, w.1), λ w. (turns.1 x).1 ((same x).1 w.0, w.1)))

turns_to_same : {X : Type 0} → (a b c : List X) (came : Bool) (item : X) → Turns a b came item → AreSame b c → Turns a c came item
turns_to_same a b c true item turns same = (turns.0, λ x. (λ h. (turns.1 x).0 ((same x).0 h), λ w. (same x).1 ((turns.1 x).1 w)))
turns_to_same a b c false item turns same = (turns.0, λ x. (λ h. (turns.1 x).0 ((same x).0 h), λ w. (same x).1 ((turns.1 x).1 w)))

pub lead_from_same : {X : Type 0} → (rs : List (Record X)) (a b c : List X) → AreSame a b → Lead rs b c → Lead rs a c
lead_from_same [] a b c same lead = λ x. (λ h. (same x).0 ((lead x).0 h), λ h. (lead x).1 ((same x).1 h))
lead_from_same (r ∷ rs) a b c same lead = (lead.0, turns_from_same a b lead.0 r.came r.item same lead.1, lead.2)

pub lead_append : {X : Type 0} → (xs ys : List (Record X)) (a b c : List X) → Lead xs a b → Lead ys b c → Lead (xs ++ ys) a c
lead_append [] ys a b c first then = lead_from_same ys a b c first then
lead_append (x ∷ xs) ys a b c first then = (first.0, first.1, lead_append xs ys first.0 b c first.2 then)

pub lead_split : {X : Type 0} → (xs ys : List (Record X)) (a c : List X) → Lead (xs ++ ys) a c → (b : List X) × Lead xs a b × Lead ys b c
lead_split [] ys a c lead = (a, same_refl a, lead)
lead_split (x ∷ xs) ys a c lead = let w = lead_split xs ys lead.0 c lead.2 in (w.0, (lead.0, lead.1, w.1), w.2)

-- ---- moves that follow the records
pub follow_more : {X : Type 0} → (xs : List (Record X)) (r : Record X) (before after : Moved X)
    → ((a b : List X) → Lead xs a b → Tell a b before) → Counts before r after
    → (a b : List X) → Lead (xs ++ r ∷ []) a b → Tell a b after
follow_more xs r before after so_far counts a b lead =
    let w = lead_split xs (r ∷ []) a b lead in
    counts w.0 b (turns_to_same w.0 w.2.0 b r.came r.item w.2.1 w.2.2) a (so_far a w.0 w.1)

pub follow_none : {X : Type 0} → (a b : List X) → AreSame a b → AreApart a b [] []
follow_none a b same = record {
  came_is = λ x. (λ h. absurd (Contains-nil x h), λ w. absurd (w.1 ((same x).0 w.0)));
  gone_is = λ x. (λ h. absurd (Contains-nil x h), λ w. absurd (w.1 ((same x).1 w.0)));
}

-- ---- what came and went, as records
abbrev pub one_each : {X : Type 0} → Bool → List X → List (Record X)
one_each came items = map (λ item. record { item = item; came = came }) items

module _ {X : Type 0} {R : X → X → Ordering} (o : IsTotalOrder R) (exact : CmpEqualImpliesEq R) where
  once : (x : X) (xs : List X) → IsStrictlySortedBy R (x ∷ xs) → Contains xs x → ⊥
  once x xs sorted h =
      let less : R x x ≡ Less = All-contains (λ q. R x q ≡ Less) xs x (All-after_first R x xs sorted) h in
      let equal : R x x ≡ Equal = tied_itself o x in
      let no : Less ≡ Equal = sym less ∙ equal in cc

  later : (x : X) (xs : List X) → IsStrictlySortedBy R (x ∷ xs) → IsStrictlySortedBy R xs
  unfolding IsStrictlySortedBy
  later x xs sorted = sorted.1

  lead_gone : (gone new old : List X) → IsStrictlySortedBy R gone → ((x : X) → Contains gone x → Contains new x → ⊥)
      → ((x : X) → Contains old x ↔ (Contains gone x ⊎ Contains new x)) → Lead (one_each false gone) old new
  lead_gone [] new old sorted apart all = λ x. (λ h. (all x).1 (inr h), λ h. elim ((all x).0 h) [ inl g ↦ absurd (Contains-nil x g) | inr n ↦ n ])
  lead_gone (g ∷ gone) new old sorted apart all = (
    gone ++ new,
    (
      (all g).1 (inl (Contains-cons_head g gone)),
      λ x. (
        λ h. elim (Contains-append_cases gone new x h) [
          | inl later_one ↦ ((all x).1 (inl (Contains-cons_tail g gone x later_one)), λ same. once g gone sorted (subst (Contains gone) same later_one))
          | inr stays ↦ ((all x).1 (inr stays), λ same. apart g (Contains-cons_head g gone) (subst (Contains new) same stays))
        ],
        λ w. elim ((all x).0 w.0) [
          | inr stays ↦ Contains-append_right gone new x stays
          | inl goes ↦ elim (Contains-cons_cases g gone x goes) [ inl same ↦ absurd (w.1 (sym same)) | inr later_one ↦ Contains-append_left gone new x later_one ]
        ],
      ),
    ),
    lead_gone gone new (gone ++ new) (later g gone sorted) (λ x h. apart x (Contains-cons_tail g gone x h)) (λ x. (
      λ h. Contains-append_cases gone new x h,
      λ h. elim h [ inl one ↦ Contains-append_left gone new x one | inr one ↦ Contains-append_right gone new x one ],
    )),
  )

  lead_came : (came old new : List X) → IsStrictlySortedBy R came → ((x : X) → Contains came x → Contains old x → ⊥)
      → ((x : X) → Contains new x ↔ (Contains came x ⊎ Contains old x)) → Lead (one_each true came) old new
  lead_came [] old new sorted apart all = λ x. (λ h. elim ((all x).0 h) [ inl c ↦ absurd (Contains-nil x c) | inr o ↦ o ], λ h. (all x).1 (inr h))
  lead_came (c ∷ came) old new sorted apart all = (
    c ∷ old,
    (
      apart c (Contains-cons_head c came),
      λ x. (
        λ h. elim (Contains-cons_cases c old x h) [ inl same ↦ inr (sym same) | inr was ↦ inl was ],
        λ h. elim h [ inl was ↦ Contains-cons_tail c old x was | inr same ↦ subst (Contains (c ∷ old)) (sym same) (Contains-cons_head c old) ],
      ),
    ),
    lead_came came (c ∷ old) new (later c came sorted) (λ x h was. elim (Contains-cons_cases c old x was) [
      | inl same ↦ once c came sorted (subst (Contains came) (sym same) h)
      | inr there ↦ apart x (Contains-cons_tail c came x h) there
    ]) (λ x. (
      λ h. elim ((all x).0 h) [
        | inr was ↦ inr (Contains-cons_tail c old x was)
        | inl comes ↦ elim (Contains-cons_cases c came x comes) [ inl same ↦ inr (subst (Contains (c ∷ old)) same (Contains-cons_head c old)) | inr one ↦ inl one ]
      ],
      λ h. (all x).1 (elim h [
        | inl one ↦ inl (Contains-cons_tail c came x one)
        | inr was ↦ elim (Contains-cons_cases c old x was) [ inl same ↦ inl (subst (Contains (c ∷ came)) same (Contains-cons_head c came)) | inr there ↦ inr there ]
      ]),
    )),
  )

  -- first what came, then what went
  pub are_records : (came gone : List X) → IsStrictlySortedBy R came → IsStrictlySortedBy R gone → AreRecords came gone (one_each true came ++ one_each false gone)
  are_records came gone came_sorted gone_sorted = record {
    many = length-append (one_each true came) (one_each false gone) ∙ ap (λ n. n + length (one_each false gone)) (length-map came (λ item. record { item = item; came = true })) ∙ ap (λ n. length came + n) (length-map gone (λ item. record { item = item; came = false }));
    lead = λ old new is.
        lead_append (one_each true came) (one_each false gone) old (came ++ old) new
        (lead_came came old (came ++ old) came_sorted (λ x c w. ((is.came_is x).0 c).1 w) (λ x. (
          λ h. Contains-append_cases came old x h,
          λ h. elim h [ inl one ↦ Contains-append_left came old x one | inr one ↦ Contains-append_right came old x one ],
        )))
        (lead_gone gone new (came ++ old) gone_sorted (λ x g n. ((is.gone_is x).0 g).1 n) (λ x. (
          λ h. elim (Contains-append_cases came old x h) [
            | inl c ↦ inr ((is.came_is x).0 c).0
            | inr was ↦ elim (in_or_not o exact new x) [ inl n ↦ inr n | inr none ↦ inl ((is.gone_is x).1 (was, none)) ]
          ],
          λ h. elim h [
            | inl g ↦ Contains-append_right came old x ((is.gone_is x).0 g).0
            | inr n ↦ elim (in_or_not o exact old x) [ inl was ↦ Contains-append_right came old x was | inr fresh ↦ Contains-append_left came old x ((is.came_is x).1 (n, fresh)) ]
          ],
        )));
  }
