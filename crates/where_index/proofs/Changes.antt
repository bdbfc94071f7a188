-- One record put in or taken out, as a change of the agents' records over time.
use Rattle.std.proofs.Common.{◌≡◌, ◌≢◌, inl, inr, ℕ, zero, suc, ◌+◌, ◌<◌, ◌≤◌, Option, Some, None, true, refl, sym, ap, ◌∙◌, subst, arith}
use Rattle.std.proofs.lemmas.Bool.Decides.{nat_tests}
use Rattle.grid_cells.specs.Cell.{Point}
use Rattle.plan_table.specs.Route.{Route}
use Rattle.where_index.specs.declared.trails.Hop.{Hop}
use Rattle.where_index.specs.Spots.{spot}
use Rattle.where_index.specs.ByCell.{ByCell, GainsAt, LosesAt}
use Rattle.where_index.specs.Records.{stand_at, hop_at, leg_between, leg_at, rest_at, changes_below, changed, changed_hop, same_point}
use Rattle.where_index.specs.Changes.{HasSpots, HaveSameAt, set_at, set_row, mixed}
use Rattle.where_index.proofs.Counts.{same_or_apart}

pub HasSpots-ext : (sets : ByCell) (f g : ℕ → ℕ → Option Hop) → ((a t : ℕ) → f a t ≡ g a t) → HasSpots sets f → HasSpots sets g
HasSpots-ext sets f g same has cell s = grind (arith, same s.step.agent s.time, has cell s)

pub same_leg : {old new : Route} {t : ℕ} → HaveSameAt old new t → leg_at old t ≡ leg_at new t
same_leg {old} {new} {t} same = ap (λ o. leg_between o (hop_at old.path t)) same.stands ∙ ap (λ h. leg_between (stand_at new t) h) same.hops

pub same_rest : {old new : Route} {t : ℕ} → HaveSameAt old new t → rest_at old t ≡ rest_at new t
same_rest same = ap (λ o. leg_between o None) same.tails

pub set_same : {X : Type 0} (f : ℕ → ℕ → X) (agent time : ℕ) (v : X) → f agent time ≡ v → (a t : ℕ) → f a t ≡ set_at f agent time v a t
set_same f agent time v is a t = grind (arith, nat_tests)

pub set_twice : {X : Type 0} (f : ℕ → ℕ → X) (agent time : ℕ) (u v : X) (a t : ℕ) → set_at (set_at f agent time u) agent time v a t ≡ set_at f agent time v a t
set_twice f agent time u v a t = grind (arith, nat_tests)

pub none_some : {X G : Type 0} (o : Option X) (x : X) → o ≡ None → o ≡ Some x → G
none_some o x a b = absurd (cc)

pub some_one : {X : Type 0} (o : Option X) (x y : X) → o ≡ Some x → o ≡ Some y → x ≡ y
some_one o x y a b = cc

pub clears : (old new : ByCell) (agent time : ℕ) (leg : Hop) (f : ℕ → ℕ → Option Hop) → LosesAt old new leg.from (spot time agent leg.to) → HasSpots old f → f agent time ≡ Some leg → HasSpots new (set_at f agent time None)
clears old new agent time leg f loses has is cell s = grind (arith, nat_tests, loses cell s, has cell s)

pub fills : (old new : ByCell) (agent time : ℕ) (leg : Hop) (f : ℕ → ℕ → Option Hop) → GainsAt old new leg.from (spot time agent leg.to) → HasSpots old f → f agent time ≡ None → HasSpots new (set_at f agent time (Some leg))
fills old new agent time leg f gains has is cell s = grind (arith, nat_tests, gains cell s, has cell s)

pub set_itself : {X : Type 0} (f : ℕ → ℕ → X) (agent time : ℕ) (v : X) → set_at f agent time v agent time ≡ v
set_itself f agent time v = grind (arith, nat_tests)

pub set_other : {X : Type 0} (f : ℕ → ℕ → X) (agent time : ℕ) (v : X) (t : ℕ) → t ≢ time → set_at f agent time v agent t ≡ f agent t
set_other f agent time v t apart = grind (arith, nat_tests)

module _ {X : Type 0} (f : ℕ → ℕ → X) (agent : ℕ) (o n : ℕ → X) where
  pub mixed_start : (from : ℕ) → ((t : ℕ) → t < from → o t ≡ n t) → ((t : ℕ) → f agent t ≡ o t) → (a t : ℕ) → f a t ≡ set_row f agent (mixed o n from) a t
  mixed_start from same agree a t = grind (arith, nat_tests, same t, agree t)

  pub mixed_here : (x : ℕ) → set_row f agent (mixed o n x) agent x ≡ o x
  mixed_here x = grind (arith, nat_tests)

  pub mixed_more : (x a t : ℕ) → set_at (set_row f agent (mixed o n x)) agent x (n x) a t ≡ set_row f agent (mixed o n (x + 1)) a t
  mixed_more x a t = grind (arith, nat_tests)

  pub mixed_end : (to : ℕ) → ((t : ℕ) → to ≤ t → o t ≡ n t) → (a t : ℕ) → set_row f agent (mixed o n to) a t ≡ set_row f agent n a t
  mixed_end to same a t = grind (arith, nat_tests, same t)

  -- f with new values at a time or two is the row of them, where old and new differ there alone
  pub one_set : (x : ℕ) → ((t : ℕ) → t ≢ x → o t ≡ n t) → ((t : ℕ) → f agent t ≡ o t) → (a t : ℕ) → set_at f agent x (n x) a t ≡ set_row f agent n a t
  one_set x same agree a t = grind (arith, nat_tests, same t, agree t)

  pub two_sets : (x y : ℕ) → ((t : ℕ) → t ≢ x → t ≢ y → o t ≡ n t) → ((t : ℕ) → f agent t ≡ o t) → (a t : ℕ) → set_at (set_at f agent x (n x)) agent y (n y) a t ≡ set_row f agent n a t
  two_sets x y same agree a t = grind (arith, nat_tests, same t, agree t)

pub none_below : {X : Type 0} (change : X → X → ℕ) (o n : ℕ → X) → ((a : X) → change a a ≡ 0) → (from : ℕ) → ((t : ℕ) → t < from → o t ≡ n t) → changes_below change o n from ≡ 0
none_below change o n itself zero same = refl
none_below change o n itself (suc x) same = grind (arith, none_below change o n itself x (λ t h. same t (omega arith)), same x (omega arith), itself (o x))

-- old and new differ at one time or two alone
module _ {X : Type 0} (change : X → X → ℕ) (o n : ℕ → X) (itself : (a : X) → change a a ≡ 0) where
  level : (t : ℕ) → o t ≡ n t → change (o t) (n t) ≡ 0
  level t same = subst (λ v. change (o t) v ≡ 0) same (itself (o t))

  pub one_below : (y to : ℕ) → ((t : ℕ) → t < to → t ≢ y → o t ≡ n t) → (to ≤ y → o y ≡ n y) → changes_below change o n to ≡ change (o y) (n y)
  one_below y zero same after = sym (level y (after (omega arith)))
  one_below y (suc t) same after = elim (same_or_apart t y) [
    | inl is ↦
        let rest = none_below change o n itself t (λ s h. same s (omega arith) (λ e. omega (arith, e, is))) in
        subst (λ q. changes_below change o n t + change (o t) (n t) ≡ change (o q) (n q)) is (omega (arith, rest))
    | inr apart ↦
        let rest = one_below y t (λ s h. same s (omega arith)) (λ h. after (past t y h apart)) in
        let here = level t (same t (omega arith) apart) in
        omega (arith, rest, here)
  ] where
    past : (s q : ℕ) → s ≤ q → s ≢ q → suc s ≤ q
    past s q h e = grind arith

  pub two_below : (x y to : ℕ) → x ≢ y → ((t : ℕ) → t < to → t ≢ x → t ≢ y → o t ≡ n t) → (to ≤ x → o x ≡ n x) → (to ≤ y → o y ≡ n y) → changes_below change o n to ≡ change (o x) (n x) + change (o y) (n y)
  two_below x y zero apart same after_x after_y =
      let a = level x (after_x (omega arith)) in
      let b = level y (after_y (omega arith)) in
      omega (arith, a, b)
  two_below x y (suc t) apart same after_x after_y = elim (same_or_apart t x) [
    | inl is ↦
        let rest = one_below y t (λ s h e. same s (omega arith) (λ q. omega (arith, q, is)) e) (λ h. after_y (past t y h (λ e. apart (sym is ∙ e)))) in
        subst (λ q. changes_below change o n t + change (o t) (n t) ≡ change (o q) (n q) + change (o y) (n y)) is (omega (arith, rest))
    | inr not_x ↦ elim (same_or_apart t y) [
      | inl is ↦
          let rest = one_below x t (λ s h e. same s (omega arith) e (λ q. omega (arith, q, is))) (λ h. after_x (past t x h not_x)) in
          subst (λ q. changes_below change o n t + change (o t) (n t) ≡ change (o x) (n x) + change (o q) (n q)) is (omega (arith, rest))
      | inr not_y ↦
          let rest = two_below x y t apart (λ s h. same s (omega arith)) (λ h. after_x (past t x h not_x)) (λ h. after_y (past t y h not_y)) in
          let here = level t (same t (omega arith) not_x not_y) in
          omega (arith, rest, here)
    ]
  ] where
    past : (s q : ℕ) → s ≤ q → s ≢ q → suc s ≤ q
    past s q h e = grind arith

pub one_more : {X : Type 0} (change : X → X → ℕ) (o n : ℕ → X) (x count more : ℕ) → count ≡ changes_below change o n x → more ≡ change (o x) (n x) → count + more ≡ changes_below change o n (x + 1)
one_more change o n x count more a b = grind arith

pub same_points : (a : Point) → same_point a a ≡ true
same_points a = grind (arith, nat_tests)

pub changed_itself : (a : Option Point) → changed a a ≡ 0
changed_itself a = grind (arith, nat_tests)

pub changed_hop_itself : (a : Option Hop) → changed_hop a a ≡ 0
changed_hop_itself a = grind (arith, nat_tests)
