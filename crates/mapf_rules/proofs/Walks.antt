-- Walks from each agent to the next, round to the first.
use Rattle.std.proofs.Common.{◌≡◌, ◌≢◌, ◌⊎◌, inl, inr, ℕ, ◌+◌, ◌<◌, ◌≤◌, List, [], ◌∷◌, ◌++◌, length, length-append, Contains, refl, sym, ap, subst, ◌∙◌, arith}
use mathlib.Core.Logic.{◌↔◌}
use Rattle.std.specs.Prelude.{slice_index}
use Rattle.std.specs.List.{AllPairs}
use Rattle.grid_cells.specs.Cell.{Point}
use Rattle.grid_cells.specs.declared.numbers.TheConstants.{MOST_AGENT}
use Rattle.plan_table.proofs.Order.{Contains-cons_head, Contains-cons_cases}
use Rattle.plan_table.specs.Route.{Fleet}
use Rattle.mapf_rules.specs.Cycles.{IsRing}
use Rattle.mapf_rules.specs.RingWalk.{IsSoleMover, MovesTo, IsNext, IsWalked}
use Rattle.plan_table.proofs.Sets.{push_iff}
use Rattle.mapf_rules.proofs.RingOrder.{IsNext-unique, next_of_sole, sole_of_next, round_to_least, next_in_ring, one_before, has_next}
use Rattle.mapf_rules.proofs.Distinct.{distinct_more}

pub same_or_not : (a b : ℕ) → (a ≡ b) ⊎ (a ≢ b)
same_or_not a b = grind arith

module _ (fleet : Fleet) (time first : ℕ) (seen : List ℕ) (least : ℕ) (to ahead : Point) (walked : IsWalked fleet time first seen least to ahead) where
  follows_last : (next : ℕ) → IsSoleMover fleet time ahead next → IsNext fleet time walked.last next
  follows_last next sole = next_of_sole fleet time walked.last next ahead walked.goes sole

  -- a ring of the first agent has someone who moves out of the cell ahead
  pub goes_on : (ring : List ℕ) → IsRing fleet time ring → Contains ring first → (next : ℕ) × IsSoleMover fleet time ahead next
  goes_on ring round in_ring =
      let its = has_next fleet time ring round walked.last (walked.inside ring round in_ring walked.last walked.last_seen) in
      (its.0, sole_of_next fleet time walked.last its.0 ahead walked.goes its.1)

  module _ (next : ℕ) (sole : IsSoleMover fleet time ahead next) where
    in_ring_too : (ring : List ℕ) → IsRing fleet time ring → Contains ring first → Contains ring next
    in_ring_too ring round in_ring = next_in_ring fleet time ring round walked.last next (walked.inside ring round in_ring walked.last walked.last_seen) (follows_last next sole)

    -- a walk that comes to an agent seen before, but for the first, is not round a ring of the first
    pub no_ring_seen : Contains seen next → next ≢ first → (ring : List ℕ) → IsRing fleet time ring → Contains ring first → ⊥
    no_ring_seen again apart ring round in_ring =
        let before = walked.reached next again apart in
        before.2 (one_before fleet time ring round before.0 walked.last next (walked.inside ring round in_ring before.0 before.1) (walked.inside ring round in_ring walked.last walked.last_seen) before.3 (follows_last next sole))

    -- a walk that comes back to the first agent has seen the least of its ring
    pub least_found : next ≡ first → (ring : List ℕ) → IsRing fleet time ring → Contains ring first → slice_index ring 0 ≡ least
    least_found back ring round in_ring =
        let seen_least : Contains seen (slice_index ring 0) = round_to_least fleet time ring (λ a. Contains seen a) closed_all round first in_ring walked.first_seen in
        let low : least ≤ slice_index ring 0 = walked.lower (slice_index ring 0) seen_least in
        let has = walked.inside ring round in_ring least walked.least_seen in
        let high : slice_index ring 0 ≤ least = subst (λ v. slice_index ring 0 ≤ v) has.2 (round.least_first has.0 least has.1) in
        omega arith
      where
        closed_all : (a n : ℕ) → IsNext fleet time a n → Contains seen a → Contains seen n
        closed_all a n follows has = elim (same_or_not a walked.last) [
          | inl at_last ↦
              let same : n ≡ next = IsNext-unique fleet time walked.last n next (subst (λ q. IsNext fleet time q n) at_last follows) (follows_last next sole) in
              subst (Contains seen) (sym (same ∙ back)) walked.first_seen
          | inr apart ↦ walked.closed a n has apart follows
        ]

    -- one agent more
    module _ (more : List ℕ) (gains : (q : ℕ) → Contains more q ↔ (Contains seen q ⊎ (q ≡ next))) (fresh : Contains seen next → ⊥) (apart : next ≢ first) (goal : Point) (goes : MovesTo fleet time next goal)
        (lesser : ℕ × Point) (one : (lesser ≡ (least, to)) ⊎ (lesser ≡ (next, goal))) (low_old : lesser.0 ≤ least) (low_new : lesser.0 ≤ next) where
      keeps : (a : ℕ) → Contains seen a → Contains more a
      keeps a h = (gains a).1 (inl h)

      has_next_too : Contains more next
      has_next_too = (gains next).1 (inr refl)

      not_next : (a : ℕ) → Contains seen a → a ≢ next
      not_next a h same = fresh (subst (Contains seen) same h)

      pub walked_on : IsWalked fleet time first more lesser.0 lesser.1 goal
      walked_on = record {
        last = next;
        last_seen = has_next_too;
        goes = goes;
        first_seen = keeps first walked.first_seen;
        closed = λ a n h differs follows. elim ((gains a).0 h) [
          | inr is ↦ absurd (differs is)
          | inl old ↦ elim (same_or_not a walked.last) [
            | inl at_last ↦
                let same : n ≡ next = IsNext-unique fleet time walked.last n next (subst (λ q. IsNext fleet time q n) at_last follows) (follows_last next sole) in
                subst (Contains more) (sym same) has_next_too
            | inr not_last ↦ keeps n (walked.closed a n old not_last follows)
          ]
        ];
        reached = λ b h differs. elim ((gains b).0 h) [
          | inl old ↦ let before = walked.reached b old differs in (before.0, keeps before.0 before.1, not_next before.0 before.1, before.3)
          | inr is ↦ (walked.last, keeps walked.last walked.last_seen, not_next walked.last walked.last_seen, subst (IsNext fleet time walked.last) (sym is) (follows_last next sole))
        ];
        least_seen = elim one [
          | inl old ↦ subst (Contains more) (sym (ap (λ (p : ℕ × Point). p.0) old)) (keeps least walked.least_seen)
          | inr new ↦ subst (Contains more) (sym (ap (λ (p : ℕ × Point). p.0) new)) has_next_too
        ];
        least_goes = elim one [
          | inl old ↦ subst (λ (p : ℕ × Point). MovesTo fleet time p.0 p.1) (sym old) walked.least_goes
          | inr new ↦ subst (λ (p : ℕ × Point). MovesTo fleet time p.0 p.1) (sym new) goes
        ];
        lower = λ a h. elim ((gains a).0 h) [
          | inl old ↦ let low : least ≤ a = walked.lower a old in omega arith
          | inr is ↦ omega arith
        ];
        inside = λ ring round in_ring a h. elim ((gains a).0 h) [
          | inl old ↦ walked.inside ring round in_ring a old
          | inr is ↦ subst (Contains ring) (sym is) (in_ring_too ring round in_ring)
        ];
      }

-- so many steps of a walk, by agents that are distinct and have numbers, one of them marked
pub record IsOnRound (fleet : Fleet) (time first steps marked least : ℕ) (to ahead : Point) : Type 0 where
  pub seen : List ℕ
  pub walked : IsWalked fleet time first seen least to ahead
  pub distinct : AllPairs (λ a b. a ≢ b) seen
  pub numbers : (a : ℕ) → Contains seen a → a < MOST_AGENT + 1
  pub many : length seen ≡ steps + 1
  pub mark : Contains seen marked

-- one step more
pub round_on : (fleet : Fleet) (time first steps marked least : ℕ) (to ahead : Point) (on : IsOnRound fleet time first steps marked least to ahead) (ring : List ℕ) → IsRing fleet time ring → Contains ring first
    → (next : ℕ) → IsSoleMover fleet time ahead next → next ≢ first → next < MOST_AGENT + 1 → (goal : Point) → MovesTo fleet time next goal
    → (lesser : ℕ × Point) → (lesser ≡ (least, to)) ⊎ (lesser ≡ (next, goal)) → lesser.0 ≤ least → lesser.0 ≤ next → (mark : ℕ) → (mark ≡ marked) ⊎ (mark ≡ next)
    → IsOnRound fleet time first (steps + 1) mark lesser.0 lesser.1 goal
round_on fleet time first steps marked least to ahead on ring round in_ring next sole apart low goal goes lesser one low_old low_new mark which =
    let fresh : Contains on.seen next → ⊥ = λ again. no_ring_seen fleet time first on.seen least to ahead on.walked next sole again apart ring round in_ring in
    let gains = push_iff on.seen next in
    record {
      seen = on.seen ++ next ∷ [];
      walked = walked_on fleet time first on.seen least to ahead on.walked next sole (on.seen ++ next ∷ []) gains fresh apart goal goes lesser one low_old low_new;
      distinct = distinct_more on.seen next on.distinct fresh;
      numbers = λ a h. elim ((gains a).0 h) [ inl old ↦ on.numbers a old | inr is ↦ rw is low ];
      many = omega (arith, length-append on.seen (next ∷ []), on.many);
      mark = elim which [ inl old ↦ (gains mark).1 (inl (subst (Contains on.seen) (sym old) on.mark)) | inr new ↦ (gains mark).1 (inr new) ];
    }

pub round_begins : (fleet : Fleet) (time first : ℕ) (to : Point) → first < MOST_AGENT + 1 → MovesTo fleet time first to → IsOnRound fleet time first 0 first first to to
round_begins fleet time first to low moves = record {
  seen = first ∷ [];
  walked = record {
    last = first;
    last_seen = here;
    goes = moves;
    first_seen = here;
    closed = λ a n h apart follows. absurd (apart (only a h));
    reached = λ b h apart. absurd (apart (only b h));
    least_seen = here;
    least_goes = moves;
    lower = λ a h. omega (arith, only a h);
    inside = λ ring round in_ring a h. subst (Contains ring) (sym (only a h)) in_ring;
  };
  distinct = λ i j d lt within. absurd (omega arith);
  numbers = λ a h. rw (only a h) low;
  many = refl;
  mark = here;
}
  where
    here : Contains (first ∷ []) first
    here = Contains-cons_head first []

    only : (a : ℕ) → Contains (first ∷ []) a → a ≡ first
    only a h = elim (Contains-cons_cases first [] a h) [ inl same ↦ sym same | inr later ↦ absurd (omega (arith, later.1)) ]
