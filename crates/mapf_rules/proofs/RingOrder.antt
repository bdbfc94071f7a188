-- Round a ring, each agent has one next, and is the next of one.
use Rattle.std.proofs.Common.{◌≡◌, ℕ, zero, suc, ◌+◌, ◌-◌, ◌<◌, ◌≤◌, ◌%◌, List, length, Some, sym, ap, subst, ◌∙◌, arith}
use Rattle.std.specs.Prelude.{IsSome, slice_index}
use Rattle.std.specs.List.{Contains}
use Rattle.std.proofs.Math.Nat.{mod_self}
use Rattle.std.proofs.lemmas.Option.{same_Some}
use Rattle.std.proofs.lemmas.List.{get_or_default}
use Rattle.std.proofs.lemmas.List.Elements.{Contains-get_or}
use Rattle.grid_cells.specs.Cell.{Point}
use Rattle.plan_table.specs.Route.{Fleet, position_of, last_of}
use Rattle.mapf_rules.specs.Cycles.{MovesOut, Follows, IsRing}
use Rattle.std.proofs.lemmas.Bool.Decides.{nat_tests}
use Rattle.plan_table.proofs.Fleets.{position_live}
use Rattle.mapf_rules.specs.RingWalk.{IsSoleMover, MovesTo, IsNext}

-- an agent has one next
pub IsNext-unique : (fleet : Fleet) (time agent a b : ℕ) → IsNext fleet time agent a → IsNext fleet time agent b → a ≡ b
IsNext-unique fleet time agent a b left right = grind (arith, nat_tests)

-- the index after k, round the ring
pub after_within : (k n : ℕ) → k < n → (k + 1) % n < n
after_within k n h = omega arith

pub after_inside : (k n : ℕ) → k + 1 < n → (k + 1) % n ≡ k + 1
after_inside k n h = grind arith

pub after_end : (k n : ℕ) → k + 1 ≡ n → (k + 1) % n ≡ 0
after_end k n h = rw h (mod_self n)

-- what holds of one index, and of the one after each, holds of all
module _ (n : ℕ) (P : ℕ → Type 0) (step : (k : ℕ) → k < n → P k → P ((k + 1) % n)) where
  climb : (steps k : ℕ) → k + steps < n → P k → P (k + steps)
  climb zero k within h = subst P {x = k} (omega arith) h
  climb (suc steps) k within h =
      subst P (after_inside (k + steps) n (omega arith) ∙ omega arith) (step (k + steps) (omega arith) (climb steps k (omega arith) h))

  pub all_round : (i j : ℕ) → i < n → j < n → P i → P j
  all_round i j i_in j_in h =
      let last : P (n - 1) = subst P {x = i + (n - 1 - i)} (omega arith) (climb (n - 1 - i) i (omega arith) h) in
      subst P {x = 0 + j} (omega arith) (climb j 0 (omega arith) (subst P (after_end (n - 1) n (omega arith)) (step (n - 1) (omega arith) last)))

-- an agent that follows another moves out of where it is
follower_moves_out : (fleet : Fleet) (time agent leader : ℕ) (cell : Point) → Follows fleet time agent leader → position_of fleet agent time ≡ Some cell → MovesOut fleet time agent cell
follower_moves_out fleet time agent leader cell (to, follows) here = grind (arith, nat_tests)

module _ (fleet : Fleet) (time : ℕ) (ring : List ℕ) (is : IsRing fleet time ring) where
  -- each agent of a ring has the following one as its next
  pub ring_next : (k : ℕ) → k < length ring → IsNext fleet time (slice_index ring k) (slice_index ring ((k + 1) % length ring))
  ring_next k within =
      let j : ℕ = (k + 1) % length ring in
      let step = is.round k within in
      record {
        cell = step.0;
        to = step.1.follower_to;
        moves = step.1.moves;
        sole = record {
          moves = follower_moves_out fleet time (slice_index ring j) _ step.0 (is.round j (after_within k (length ring) within)) step.1.leader_there;
          only = λ other out.
              is.alone (slice_index ring j) other step.0 (Contains-get_or ring j 0 (after_within k (length ring) within)) step.1.leader_there out;
        };
      }

-- where each agent of a list has the following one as its next, each is the next of one
pub has_before : (fleet : Fleet) (time : ℕ) (ring : List ℕ) → ((k : ℕ) → k < length ring → IsNext fleet time (slice_index ring k) (slice_index ring ((k + 1) % length ring)))
    → (k : ℕ) → k < length ring → (before : ℕ) × IsNext fleet time before (slice_index ring k)
has_before fleet time ring next k within =
    let P : ℕ → Type 0 = λ m. (before : ℕ) × IsNext fleet time before (slice_index ring m) in
    all_round (length ring) P (λ m lt _. (slice_index ring m, next m lt)) ((0 + 1) % length ring) k (omega arith) within (slice_index ring 0, next 0 (omega arith))

-- the first agent of a ring has a row, and moves
pub ring_live : (fleet : Fleet) (time : ℕ) (ring : List ℕ) → IsRing fleet time ring → IsSome (fleet (slice_index ring 0))
ring_live fleet time ring is = let step = is.round 0 (omega (arith, is.three)) in position_live fleet (slice_index ring 0) (time + 1) step.0 step.1.follower_to

pub ring_early : (fleet : Fleet) (h time : ℕ) (ring : List ℕ) → ((agent : ℕ) → last_of fleet agent ≤ h) → IsRing fleet time ring → time ≤ h
ring_early fleet h time ring above is = grind (arith, nat_tests)

-- the next of an agent that moves to a cell is the one that alone moves out of it
pub next_of_sole : (fleet : Fleet) (time agent next : ℕ) (cell : Point) → MovesTo fleet time agent cell → IsSoleMover fleet time cell next → IsNext fleet time agent next
next_of_sole fleet time agent next cell moves sole = record { cell = cell; to = moves.to; moves = moves.moves; sole = sole }

pub sole_of_next : (fleet : Fleet) (time agent next : ℕ) (cell : Point) → MovesTo fleet time agent cell → IsNext fleet time agent next → IsSoleMover fleet time cell next
sole_of_next fleet time agent next cell moves is = subst (λ (c : Point). IsSoleMover fleet time c next) (same_Some _ _ (sym is.to ∙ moves.to)) is.sole

-- what holds of an agent of a ring, and of each one's next, holds of its least
pub round_to_least : (fleet : Fleet) (time : ℕ) (ring : List ℕ) (P : ℕ → Type 0) → ((a next : ℕ) → IsNext fleet time a next → P a → P next)
    → IsRing fleet time ring → (agent : ℕ) → Contains ring agent → P agent → P (slice_index ring 0)
round_to_least fleet time ring P step is agent (i, within, at) h =
    let here : P (slice_index ring i) = subst P (sym (get_or_default ring i 0 agent within ∙ at)) h in
    all_round (length ring) (λ k. P (slice_index ring k)) (λ k lt. step _ _ (ring_next fleet time ring is k lt)) i 0 within (omega arith) here

module _ (fleet : Fleet) (time : ℕ) (ring : List ℕ) (is : IsRing fleet time ring) where
  -- the next of an agent of the ring is of the ring
  pub next_in_ring : (agent next : ℕ) → Contains ring agent → IsNext fleet time agent next → Contains ring next
  next_in_ring agent next (i, within, at) follows =
      let here : slice_index ring i ≡ agent = get_or_default ring i 0 agent within ∙ at in
      let its = ring_next fleet time ring is i within in
      let same : slice_index ring ((i + 1) % length ring) ≡ next = IsNext-unique fleet time agent _ next (subst (λ a. IsNext fleet time a (slice_index ring ((i + 1) % length ring))) here its) follows in
      subst (Contains ring) same (Contains-get_or ring ((i + 1) % length ring) 0 (after_within i (length ring) within))

  -- an agent of the ring has one agent before it
  pub one_before : (a b next : ℕ) → Contains ring a → Contains ring b → IsNext fleet time a next → IsNext fleet time b next → a ≡ b
  one_before a b next (i, i_in, i_at) (j, j_in, j_at) fa fb =
      let here_a : slice_index ring i ≡ a = get_or_default ring i 0 a i_in ∙ i_at in
      let here_b : slice_index ring j ≡ b = get_or_default ring j 0 b j_in ∙ j_at in
      let na : slice_index ring ((i + 1) % length ring) ≡ next = IsNext-unique fleet time a _ next (subst (λ q. IsNext fleet time q (slice_index ring ((i + 1) % length ring))) here_a (ring_next fleet time ring is i i_in)) fa in
      let nb : slice_index ring ((j + 1) % length ring) ≡ next = IsNext-unique fleet time b _ next (subst (λ q. IsNext fleet time q (slice_index ring ((j + 1) % length ring))) here_b (ring_next fleet time ring is j j_in)) fb in
      let place : (i + 1) % length ring ≡ (j + 1) % length ring = one_place _ _ (after_within i (length ring) i_in) (after_within j (length ring) j_in) (na ∙ sym nb) in
      let same : i ≡ j = same_before i j (length ring) i_in j_in place in
      sym here_a ∙ ap (slice_index ring) same ∙ here_b
    where
      one_place : (k m : ℕ) → k < length ring → m < length ring → slice_index ring k ≡ slice_index ring m → k ≡ m
      one_place k m k_in m_in at = grind (arith, is.distinct k m 0, is.distinct m k 0)

      same_before : (k m n : ℕ) → k < n → m < n → (k + 1) % n ≡ (m + 1) % n → k ≡ m
      same_before k m n k_in m_in at = grind (arith, after_inside k n, after_inside m n, after_end k n, after_end m n)

  pub has_next : (agent : ℕ) → Contains ring agent → (next : ℕ) × IsNext fleet time agent next
  has_next agent (i, within, at) =
      let here : slice_index ring i ≡ agent = get_or_default ring i 0 agent within ∙ at in
      (slice_index ring ((i + 1) % length ring), subst (λ a. IsNext fleet time a (slice_index ring ((i + 1) % length ring))) here (ring_next fleet time ring is i within))

-- an agent of a ring is the next of another one of it
pub one_to : (fleet : Fleet) (time : ℕ) (ring : List ℕ) → IsRing fleet time ring → (a : ℕ) → Contains ring a → (before : ℕ) × IsNext fleet time before a
one_to fleet time ring is a (k, within, at) =
    subst (λ q. (before : ℕ) × IsNext fleet time before q) (get_or_default ring k 0 a within ∙ at) (has_before fleet time ring (ring_next fleet time ring is) k within)
