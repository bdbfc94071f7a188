-- A ring goes all four ways.
use Rattle.std.proofs.Common.{◌≡◌, ◌≢◌, ◌⊎◌, inl, inr, ℕ, zero, suc, ◌+◌, ◌<◌, ◌≤◌, ◌%◌, Bool, true, false, List, length, Option, Some, refl, sym, ap, ◌∙◌, arith}
use mathlib.Core.Bool.{false≢true}
use Rattle.std.specs.Prelude.{slice_index}
use Rattle.std.specs.Option.{unwrap_or}
use Rattle.std.proofs.lemmas.Bool.Decides.{nat_tests}
use Rattle.std.proofs.lemmas.List.Elements.{Contains-get_or}
use Rattle.grid_cells.specs.Cell.{Point, point, IsStep}
use Rattle.plan_table.specs.Route.{Fleet, position_of}
use Rattle.where_index.specs.declared.ways.Way.{Way}
use Rattle.where_index.specs.declared.ways.Way.TheVariants.{Up, Left, Right, Down}
use Rattle.where_index.specs.Flows.{leads}
use Rattle.where_index.specs.Asked.{Goes}
use Rattle.mapf_rules.specs.Cycles.{IsRing}
use Rattle.mapf_rules.proofs.RingOrder.{after_within, after_inside, after_end, all_round, one_to}
use Rattle.mapf_rules.proofs.Walks.{same_or_not}
use Rattle.std.proofs.lemmas.Bool.{cases_Bool}

-- ---- round a ring, what holds of each step holds of the steps back
steps_back : (R : ℕ → ℕ → Type 0) (n : ℕ) → ((k : ℕ) → R k k) → ((i j k : ℕ) → R i j → R j k → R i k) → ((k : ℕ) → k < n → R k ((k + 1) % n))
    → (k : ℕ) → k < n → R ((k + 1) % n) k
steps_back R n itself joined step k h =
    all_round n (R ((k + 1) % n)) (λ m lt on. joined _ m _ on (step m lt)) ((k + 1) % n) k (after_within k n h) h (itself ((k + 1) % n))

-- ---- ways
abbrev opposite : Way → Way
opposite Up = Down
opposite Left = Right
opposite Right = Left
opposite Down = Up

stays : (way : Way) (p : Point) → leads way p p ≡ false
stays Up p = grind (arith, nat_tests)
stays Left p = grind (arith, nat_tests)
stays Right p = grind (arith, nat_tests)
stays Down p = grind (arith, nat_tests)

never : (way : Way) (p q r : Point) → leads way p q ≡ false → leads way q r ≡ false → leads way p r ≡ false
never Up p q r a b = grind (arith, nat_tests)
never Left p q r a b = grind (arith, nat_tests)
never Right p q r a b = grind (arith, nat_tests)
never Down p q r a b = grind (arith, nat_tests)

turned : (way : Way) (p q : Point) → leads way p q ≡ leads (opposite way) q p
turned Up p q = refl
turned Left p q = refl
turned Right p q = refl
turned Down p q = refl

-- ---- the ways across a way
abbrev across : Way → Way
across Up = Right
across Left = Down
across Right = Up
across Down = Left

back_again : (way : Way) → opposite (opposite way) ≡ way
back_again Up = refl
back_again Left = refl
back_again Right = refl
back_again Down = refl

twice_across : (way : Way) → across (across way) ≡ way
twice_across Up = refl
twice_across Left = refl
twice_across Right = refl
twice_across Down = refl

back_across : (way : Way) → across (opposite (across way)) ≡ opposite way
back_across Up = refl
back_across Left = refl
back_across Right = refl
back_across Down = refl

one_way : (way : Way) (p q : Point) → leads way p q ≡ true → leads (opposite way) p q ≡ false
one_way Up p q h = grind (arith, nat_tests)
one_way Left p q h = grind (arith, nat_tests)
one_way Right p q h = grind (arith, nat_tests)
one_way Down p q h = grind (arith, nat_tests)

-- a step to another cell that goes neither way across goes this way or back
along : (way : Way) (p q : Point) → IsStep p q → p ≢ q → leads (across way) p q ≡ false → leads (opposite (across way)) p q ≡ false → (leads way p q ≡ true) ⊎ (leads (opposite way) p q ≡ true)
along Up p q step apart a b = grind (arith, nat_tests)
along Left p q step apart a b = grind (arith, nat_tests)
along Right p q step apart a b = grind (arith, nat_tests)
along Down p q step apart a b = grind (arith, nat_tests)

there_and_back : (way : Way) (p q r : Point) → IsStep p q → IsStep q r → leads way p q ≡ true → leads (opposite way) q r ≡ true → p ≡ r
there_and_back Up p q r a b on back = grind (arith, nat_tests)
there_and_back Left p q r a b on back = grind (arith, nat_tests)
there_and_back Right p q r a b on back = grind (arith, nat_tests)
there_and_back Down p q r a b on back = grind (arith, nat_tests)

two_on : (k n : ℕ) → k < n → 3 ≤ n → ((k + 1) % n + 1) % n ≢ k
two_on k n h three = grind (arith, after_inside k n, after_end k n, after_inside (k + 1) n, after_end (k + 1) n, after_inside 0 n)

-- a test holds nowhere below a bound, or somewhere
nowhere_or : (p : ℕ → Bool) (n : ℕ) → ((k : ℕ) → k < n → p k ≡ false) ⊎ ((k : ℕ) × (k < n) × (p k ≡ true))
nowhere_or p zero = inl (λ k h. absurd (omega arith))
nowhere_or p (suc n) = elim (cases_Bool (p n)) [
  | inl on ↦ inr (n, omega arith, on)
  | inr off ↦ elim (nowhere_or p n) [
    | inl before ↦ inl (λ k h. grind (arith, before k, off, same_or_not k n))
    | inr found ↦ inr (found.0, omega (arith, found.1), found.2)
  ]
]

-- ---- the members of a ring
module _ (fleet : Fleet) (time : ℕ) (ring : List ℕ) (is : IsRing fleet time ring) where
  cell_at : ℕ → Point
  cell_at k = unwrap_or (position_of fleet (slice_index ring k) time) (point 0 0)

  given : (o : Option Point) (p : Point) → o ≡ Some p → unwrap_or o (point 0 0) ≡ p
  given o p e = ap (λ (q : Option Point). unwrap_or q (point 0 0)) e

  next : ℕ → ℕ
  next k = (k + 1) % length ring

  -- where a member is, and where it goes
  starts_at : (k : ℕ) → k < length ring → position_of fleet (slice_index ring k) time ≡ Some (cell_at k)
  unfolding cell_at
  starts_at k within =
      let before = one_to fleet time ring is (slice_index ring k) (Contains-get_or ring k 0 within) in
      before.1.sole.moves.from ∙ ap Some (sym (given _ _ before.1.sole.moves.from))

  arrives_at : (k : ℕ) → k < length ring → position_of fleet (slice_index ring k) (time + 1) ≡ Some (cell_at (next k))
  unfolding cell_at next
  arrives_at k within =
      let step = is.round k within in
      step.1.follower_to ∙ ap Some (sym (given _ _ step.1.leader_there))

  -- where no member goes one way, none goes the opposite way
  none_back : (way : Way) → ((k : ℕ) → k < length ring → leads way (cell_at k) (cell_at (next k)) ≡ false) → (k : ℕ) → k < length ring → leads (opposite way) (cell_at k) (cell_at (next k)) ≡ false
  unfolding next
  none_back way none k within =
      sym (turned way (cell_at (next k)) (cell_at k)) ∙ steps_back (λ i j. leads way (cell_at i) (cell_at j) ≡ false) (length ring) (λ k. stays way (cell_at k)) (λ i j k. never way (cell_at i) (cell_at j) (cell_at k)) none k within

  one_place : (k m : ℕ) → k < length ring → m < length ring → slice_index ring k ≡ slice_index ring m → k ≡ m
  one_place k m k_in m_in at = grind (arith, is.distinct k m 0, is.distinct m k 0)

  -- members are in cells of their own, and the second next of one is another one
  moves_on : (k : ℕ) → k < length ring → cell_at k ≢ cell_at (next k)
  moves_on k within same =
      let before = one_to fleet time ring is (slice_index ring k) (Contains-get_or ring k 0 within) in
      before.1.sole.moves.moves (arrives_at k within ∙ ap Some (sym same) ∙ sym (starts_at k within) ∙ before.1.sole.moves.from)

  not_back : (k : ℕ) → k < length ring → cell_at k ≢ cell_at (next (next k))
  unfolding next
  not_back k within same =
      let near = after_within k (length ring) within in
      let far = after_within (next k) (length ring) near in
      let there = one_to fleet time ring is (slice_index ring (next (next k))) (Contains-get_or ring (next (next k)) 0 far) in
      let here : position_of fleet (slice_index ring k) time ≡ Some there.1.cell = starts_at k within ∙ ap Some same ∙ sym (starts_at (next (next k)) far) ∙ there.1.sole.moves.from in
      let one = is.alone (slice_index ring k) (slice_index ring (next (next k))) there.1.cell (Contains-get_or ring k 0 within) here there.1.sole.moves in
      two_on k (length ring) within is.three (one_place (next (next k)) k far within one)

  module _ (walks : (agent : ℕ) (p q : Point) → position_of fleet agent time ≡ Some p → position_of fleet agent (time + 1) ≡ Some q → IsStep p q) where
    steps : (k : ℕ) → k < length ring → IsStep (cell_at k) (cell_at (next k))
    steps k within = walks _ _ _ (starts_at k within) (arrives_at k within)

    -- where no member goes one way nor back, those that go across all go on
    goes_on : (way : Way) → ((k : ℕ) → k < length ring → leads (across way) (cell_at k) (cell_at (next k)) ≡ false) → (k : ℕ) → k < length ring → leads way (cell_at k) (cell_at (next k)) ≡ true → leads way (cell_at (next k)) (cell_at (next (next k))) ≡ true
    unfolding next
    goes_on way none k within on =
        let near = after_within k (length ring) within in
        elim (along way (cell_at (next k)) (cell_at (next (next k))) (steps (next k) near) (moves_on (next k) near) (none (next k) near) (none_back (across way) none (next k) near)) [
          | inl same ↦ same
          | inr back ↦ absurd (not_back k within (there_and_back way (cell_at k) (cell_at (next k)) (cell_at (next (next k))) (steps k within) (steps (next k) near) on back))
        ]

    -- so no member goes so
    none_on : (way : Way) → ((k : ℕ) → k < length ring → leads (across way) (cell_at k) (cell_at (next k)) ≡ false) → (k : ℕ) → k < length ring → leads way (cell_at k) (cell_at (next k)) ≡ true → ⊥
    unfolding next
    none_on way none k within on =
        let all = λ (j : ℕ) (inside : j < length ring). all_round (length ring) (λ i. leads way (cell_at i) (cell_at (next i)) ≡ true) (goes_on way none) k j within inside on in
        let off = none_back (opposite way) (λ j inside. one_way way (cell_at j) (cell_at (next j)) (all j inside)) k within in
        false≢true (sym off ∙ (ap (λ w. leads w (cell_at k) (cell_at (next k))) (back_again way) ∙ on))

    -- a ring goes all four ways
    pub goes_round : (way : Way) → Goes fleet time way
    unfolding next
    goes_round way = elim (nowhere_or (λ k. leads way (cell_at k) (cell_at (next k))) (length ring)) [
      | inr found ↦ record {
        agent = slice_index ring found.0;
        from = cell_at found.0;
        to = cell_at (next found.0);
        starts = starts_at found.0 found.1;
        arrives = arrives_at found.0 found.1;
        turns = found.2;
      }
      | inl none ↦
          let first : 0 < length ring = omega (arith, is.three) in
          let here = λ (k : ℕ) (within : k < length ring). ap (λ w. leads w (cell_at k) (cell_at (next k))) (twice_across way) ∙ none k within in
          elim (along (across way) (cell_at 0) (cell_at (next 0)) (steps 0 first) (moves_on 0 first) (here 0 first) (none_back (across (across way)) here 0 first)) [
            | inl on ↦ absurd (none_on (across way) here 0 first on)
            | inr back ↦ absurd (none_on (opposite (across way)) (λ k within. ap (λ w. leads w (cell_at k) (cell_at (next k))) (back_across way) ∙ none_back way none k within) 0 first back)
          ]
    ]
