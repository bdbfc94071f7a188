-- Crowds, as agents come to a place and leave it.
use Rattle.std.proofs.Common.{zero, suc, ◌≡◌, ◌≢◌, ◌⊎◌, inl, inr, ℕ, ◌<◌, List, [], ◌∷◌, length, Contains, Option, Some, None, true, false, cond, refl, sym, ap, ◌∙◌, subst, arith}
use mathlib.Core.Logic.{◌↔◌}
use Rattle.std.specs.Map.{lookup}
use Rattle.std.proofs.lemmas.Bool.Decides.{nat_tests}
use Rattle.grid_cells.specs.Cell.{Point}
use Rattle.where_index.specs.declared.moves.Move.{Move}
use Rattle.where_index.specs.declared.crowds.Place.{Place}
use Rattle.where_index.specs.declared.trails.Hop.{Hop}
use Rattle.where_index.specs.Records.{hop}
use Rattle.where_index.specs.Moves.{PutsMove}
use Rattle.where_index.specs.Changes.{set_at}
use Rattle.where_index.specs.Crowds.{place, place_eq, crowd_at, Moves, IsCrowd, HasCrowds, ChangesAt, IsBeside, begun, IsJoined, IsLessened, IsCrowdLeft, HasFew}
use Rattle.plan_table.proofs.Order.{Contains-nil, Contains-cons_head, Contains-cons_cases}
use Rattle.where_index.proofs.Changes.{set_itself, none_some, some_one}

place_cases : (cell : Point) (time : ℕ) (c : Point) (t : ℕ) → (((c ≡ cell) × (t ≡ time)) × (place_eq (place cell time) (place c t) ≡ true)) ⊎ (((c ≡ cell) → (t ≡ time) → ⊥) × (place_eq (place cell time) (place c t) ≡ false))
place_cases cell time c t = grind (arith, nat_tests)

-- a list put at a place, or taken out there
pub changes_at : (old new : List (Place × List Move)) (cell : Point) (time : ℕ) (list : Option (List Move)) → ((q : Place) → lookup (place_eq q) new ≡ cond (place_eq (place cell time) q) list (lookup (place_eq q) old))
    → (Way : Option (List Move) → Option (List Move) → Type 0) → Way (crowd_at old cell time) list → ChangesAt old new cell time Way
changes_at old new cell time list puts Way way = record {
  here = elim (place_cases cell time cell time) [
    | inl at ↦ subst (λ n. Way (crowd_at old cell time) n) (sym (puts (place cell time) ∙ ap (λ b. cond b list (crowd_at old cell time)) at.1)) way
    | inr away ↦ absurd (away.0 refl refl)
  ];
  elsewhere = λ c t apart. elim (place_cases cell time c t) [
    | inl at ↦ absurd (apart at.0.0 at.0.1)
    | inr away ↦ puts (place c t) ∙ ap (λ b. cond b list (crowd_at old c t)) away.1
  ];
}

-- moves that are left, and few of them no longer kept
module _ (old : List (Place × List Move)) where
  pub kept : (new : List (Place × List Move)) (cell : Point) (time agent : ℕ) → ChangesAt old new cell time (IsLessened agent) → ChangesAt old new cell time (IsCrowdLeft agent)
  kept new cell time agent lost = record { here = same _ _ lost.here; elsewhere = lost.elsewhere } where
    same : (o n : Option (List Move)) → IsLessened agent o n → IsCrowdLeft agent o n
    same (Some l) (Some k) h = h
    same (Some l) None h = absurd h
    same None (Some k) h = h
    same None None h = h

  pub dropped : (mid new : List (Place × List Move)) (cell : Point) (time agent : ℕ) → ChangesAt old mid cell time (IsLessened agent) → HasFew (crowd_at mid cell time) → ChangesAt mid new cell time (λ o n. n ≡ None) → ChangesAt old new cell time (IsCrowdLeft agent)
  dropped mid new cell time agent lost few drops = record {
    here = subst (IsCrowdLeft agent (crowd_at old cell time)) (sym drops.here) (none _ _ lost.here few);
    elsewhere = λ c t apart. drops.elsewhere c t apart ∙ lost.elsewhere c t apart;
  } where
    none : (o m : Option (List Move)) → IsLessened agent o m → HasFew m → IsCrowdLeft agent o None
    none (Some l) (Some k) h few = (k, h, few)
    none (Some l) None h few = absurd h
    none None (Some k) h few = absurd h
    none None None h few = h

-- ---- lists of moves
-- a list of one move, and a move put in
pub puts_beside : (one both : List Move) (other added : Move) → PutsMove [] one other → PutsMove one both added → PutsMove (other ∷ []) both added
puts_beside one both other added first second m = grind (arith, first m, second m, Contains-nil m, Contains-cons_head other [], Contains-cons_cases other [] m)

few_are_one : (moves : List Move) → length moves < 2 → (m n : Move) → Contains moves m → Contains moves n → m ≡ n
few_are_one [] few m n (i, within, is) (j, also, too) = absurd (omega arith)
few_are_one (x ∷ l) few m n (zero, within, is) (zero, also, too) = sym is ∙ too
few_are_one (x ∷ l) few m n (suc i, within, is) (j, also, too) = absurd (omega arith)
few_are_one (x ∷ l) few m n (zero, within, is) (suc j, also, too) = absurd (omega arith)

-- ---- crowds of the same moves
IsCrowd-ext : (o : Option (List Move)) (P Q : Move → Type 0) → ((m : Move) → P m ↔ Q m) → IsCrowd o P → IsCrowd o Q
IsCrowd-ext (Some l) P Q same is = λ m. grind (arith, same m, is m)
IsCrowd-ext None P Q same is = λ m n p q. is m n ((same m).1 p) ((same n).1 q)

pub HasCrowds-ext : (lists : List (Place × List Move)) (f g : ℕ → ℕ → Option Hop) → ((a t : ℕ) → f a t ≡ g a t) → HasCrowds lists f → HasCrowds lists g
HasCrowds-ext lists f g same has cell time =
    IsCrowd-ext (crowd_at lists cell time) (Moves f cell time) (Moves g cell time) (λ m. grind (arith, same m.agent time)) (has cell time)

-- an agent's leg in a step is another one, and neither is a move out of that cell then
module _ (f : ℕ → ℕ → Option Hop) (agent time : ℕ) (v : Option Hop) where
  module _ (c : Point) (t : ℕ) where
    abbrev None-goes : Option Hop → Type 0
    None-goes o = (to : Point) → (t ≡ time) → o ≡ Some (hop c to) → c ≢ to → ⊥

    off : None-goes (f agent time) → None-goes v → (m : Move) → Moves f c t m ↔ Moves (set_at f agent time v) c t m
    off before after m = grind (arith, nat_tests, before m.to, after m.to)

  -- at a place: the others' moves, and the agent's
  others : (cell : Point) (m : Move) → m.agent ≢ agent → Moves f cell time m ↔ Moves (set_at f agent time v) cell time m
  others cell m apart = grind (arith, nat_tests)

  own : (cell : Point) (m : Move) → m.agent ≡ agent → Moves (set_at f agent time v) cell time m → v ≡ Some (hop cell m.to)
  own cell m same h = grind (arith, nat_tests)

-- ---- an agent comes
module _ (f : ℕ → ℕ → Option Hop) (agent time : ℕ) (leg : Hop) (absent : f agent time ≡ None) where
  abbrev next : ℕ → ℕ → Option Hop
  next = set_at f agent time (Some leg)

  none_before : (c : Point) (t : ℕ) (to : Point) → (t ≡ time) → f agent time ≡ Some (hop c to) → c ≢ to → ⊥
  none_before c t to _ is _ = none_some _ _ absent is

  -- it waits
  pub waits : (lists : List (Place × List Move)) → leg.to ≡ leg.from → HasCrowds lists f → HasCrowds lists next
  waits lists wait has c t = IsCrowd-ext (crowd_at lists c t) (Moves f c t) (Moves next c t)
      (off f agent time (Some leg) c t (none_before c t) (λ to _ is apart.
      let one : leg ≡ hop c to = some_one _ _ _ refl is in
      apart (sym (ap (λ (q : Hop). q.from) one) ∙ (sym wait ∙ ap (λ (q : Hop). q.to) one))))
      (has c t)

  -- it moves, and one of the others out of the cell then is told
  abbrev added : Move
  added = record { agent = agent; to = leg.to }

  here : leg.from ≢ leg.to → (m : Move) → Moves next leg.from time m ↔ ((Moves f leg.from time m × (m.agent ≢ agent)) ⊎ (m ≡ added))
  here apart m = grind (arith, own f agent time (Some leg) leg.from m, others f agent time (Some leg) leg.from m, set_itself f agent time (Some leg))

  joined : (o n : Option (List Move)) (beside : Option Move) → leg.from ≢ leg.to → IsBeside f leg.from time beside → IsCrowd o (Moves f leg.from time) → IsJoined added (begun o beside) n → IsCrowd n (Moves next leg.from time)
  joined (Some l) (Some k) beside apart are is puts = λ m. (
    (λ h. elim ((puts m).0 h) [ inl o ↦ (here apart m).1 (inl ((is m).0 o.0, o.1)) | inr one ↦ (here apart m).1 (inr one) ]),
    (λ h. elim ((here apart m).0 h) [ inl o ↦ (puts m).1 (inl ((is m).1 o.0, o.1)) | inr one ↦ (puts m).1 (inr one) ]),
  )
  joined (Some l) None beside apart are is puts = absurd puts
  joined None (Some k) (Some b) apart are is puts = λ m. (
    (λ h. elim ((puts m).0 h) [
      | inl o ↦ elim (Contains-cons_cases b [] m o.0) [
        | inl one ↦ (here apart m).1 (inl (subst (λ q. Moves f leg.from time q) one are, o.1))
        | inr n ↦ absurd (Contains-nil m n)
      ]
      | inr one ↦ (here apart m).1 (inr one)
    ]),
    (λ h. elim ((here apart m).0 h) [
      | inl o ↦ (puts m).1 (inl (subst (λ q. Contains (b ∷ []) q) (is b m are o.0) (Contains-cons_head b []), o.1))
      | inr one ↦ (puts m).1 (inr one)
    ]),
  )
  joined None (Some k) None apart are is puts = absurd puts
  joined None None (Some b) apart are is puts = absurd puts
  joined None None None apart are is puts = λ m n p q. only m p ∙ sym (only n q) where
    only : (x : Move) → Moves next leg.from time x → x ≡ added
    only x h = elim ((here apart x).0 h) [ inl o ↦ absurd (are x o.0) | inr one ↦ one ]

  pub joins : (old new : List (Place × List Move)) (beside : Option Move) → leg.from ≢ leg.to → IsBeside f leg.from time beside → ChangesAt old new leg.from time (λ o n. IsJoined added (begun o beside) n) → HasCrowds old f → HasCrowds new next
  joins old new beside apart are changes has c t = elim (place_cases leg.from time c t) [
    | inl at ↦
        let there = joined (crowd_at old leg.from time) (crowd_at new leg.from time) beside apart are (has leg.from time) changes.here in
        subst (λ (q : Point). IsCrowd (crowd_at new q t) (Moves next q t)) (sym at.0.0) (subst (λ q. IsCrowd (crowd_at new leg.from q) (Moves next leg.from q)) (sym at.0.1) there)
    | inr away ↦ subst (λ o. IsCrowd o (Moves next c t)) (sym (changes.elsewhere c t away.0)) (IsCrowd-ext (crowd_at old c t) (Moves f c t) (Moves next c t)
        (off f agent time (Some leg) c t (none_before c t) (λ to at is _. away.0 (sym (ap (λ (q : Hop). q.from) (some_one _ _ _ refl is))) at)) (has c t))
  ]

-- ---- an agent goes
module _ (f : ℕ → ℕ → Option Hop) (agent time : ℕ) (leg : Hop) (there : f agent time ≡ Some leg) where
  abbrev rest : ℕ → ℕ → Option Hop
  rest = set_at f agent time None

  left : (m : Move) → Moves rest leg.from time m ↔ (Moves f leg.from time m × (m.agent ≢ agent))
  left m = grind (arith, own f agent time None leg.from m, others f agent time None leg.from m)

  leaves_place : (o n : Option (List Move)) → IsCrowd o (Moves f leg.from time) → IsCrowdLeft agent o n → IsCrowd n (Moves rest leg.from time)
  leaves_place (Some l) (Some k) is loses = λ m. (
    (λ h. let o = (loses m).0 h in (left m).1 ((is m).0 o.0, o.1)),
    (λ h. let o = (left m).0 h in (loses m).1 ((is m).1 o.0, o.1)),
  )
  leaves_place (Some l) None is few = λ m n p q.
      let kept : (x : Move) → Moves rest leg.from time x → Contains few.0 x = λ x h. let o = (left x).0 h in (few.1 x).1 ((is x).1 o.0, o.1) in
      few_are_one few.0 few.2 m n (kept m p) (kept n q)
  leaves_place None (Some k) is loses = absurd loses
  leaves_place None None is loses = λ m n p q. is m n ((left m).0 p).0 ((left n).0 q).0

  pub leaves : (old new : List (Place × List Move)) → ChangesAt old new leg.from time (IsCrowdLeft agent) → HasCrowds old f → HasCrowds new rest
  leaves old new changes has c t = elim (place_cases leg.from time c t) [
    | inl at ↦
        let now = leaves_place (crowd_at old leg.from time) (crowd_at new leg.from time) (has leg.from time) changes.here in
        subst (λ (q : Point). IsCrowd (crowd_at new q t) (Moves rest q t)) (sym at.0.0) (subst (λ q. IsCrowd (crowd_at new leg.from q) (Moves rest leg.from q)) (sym at.0.1) now)
    | inr away ↦ subst (λ o. IsCrowd o (Moves rest c t)) (sym (changes.elsewhere c t away.0)) (IsCrowd-ext (crowd_at old c t) (Moves f c t) (Moves rest c t)
        (off f agent time None c t (λ to at is _. away.0 (sym (ap (λ (q : Hop). q.from) (some_one _ _ _ there is))) at) (λ to _ is _. none_some None (hop c to) refl is)) (has c t))
  ]
