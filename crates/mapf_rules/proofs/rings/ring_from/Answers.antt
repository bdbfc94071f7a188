use Rattle.std.proofs.Common.{◌≡◌, ◌≢◌, ℕ, ◌<◌, ◌≤◌, ◌+◌, ◌-◌, ◌∷◌, [], ◌++◌, inl, inr, List, length, length-append, Some, sym, ap, subst, ◌∙◌, arith}
use mathlib.Core.Bool.{false≢true}
use Rattle.std.specs.Prelude.{slice_index}
use Rattle.std.specs.List.{Contains}
use Rattle.std.proofs.lemmas.Bool.{eqb-true, eq-eqb}
use Rattle.std.proofs.lemmas.Cmp.{nat_cmp_total}
use Rattle.std.proofs.lemmas.Map.Lookups.{exact_unsigned}
use Rattle.std.proofs.lemmas.List.{get_or_push, get_or_append_left}
use Rattle.grid_cells.specs.declared.numbers.TheConstants.{MOST_AGENT}
use Rattle.mapf_rules.specs.RingWalk.{IsNext, MovesTo}
use Rattle.mapf_rules.proofs.RoundTrips.{last_next, ring_is_chain, begins_more, chain_more, ring_of_chain, none_below, none_again, lt_says, not_lt_says}
use Rattle.mapf_rules.proofs.RingOrder.{next_of_sole, sole_of_next}
use Rattle.mapf_rules.proofs.Distinct.{distinct_below}
use Rattle.plan_table.proofs.Sets.{push_iff, set_gains, set_fresh, set_stale}
use Rattle.mapf_rules.proofs.rings.ring_from.Goals as goal
use Rattle.mapf_rules.proofs.rings.ring_from.Goals.{then-long, else-long, then-lt-via-then-lt, then-lt-via-else-lt+in_ok-insert-2+then-not-branch}

pub returns-in_default-clause-only : goal.returns-in_default-clause-only
returns-in_default-clause-only g c fleet ring tells moves round starts =
    let chain : List ℕ = c.loop.chain.items in
    let some : 0 < length chain = omega (arith, c.loop.invariant.long) in
    let step = last_next fleet c.args.time c.args.first chain (c.loop.invariant.chain fleet tells moves) ring round (c.loop.invariant.forced fleet tells moves ring round starts) in
    let sole = sole_of_next fleet c.args.time _ _ c.loop.ahead (c.loop.invariant.ahead fleet tells moves) step in
    let there = c.in_default.ensures.found fleet _ tells sole in
    cc

pub returns-then-eq-clause-ring : goal.returns-then-eq-clause-ring
returns-then-eq-clause-ring g c fleet tells moves =
    let chain : List ℕ = c.loop.chain.items in
    let some : 0 < length chain = omega (arith, c.loop.invariant.long) in
    let back : c.in-Some.mover.0 ≡ c.args.first = eqb-true _ _ (sym c.if-eq.ensures) in
    let follows : IsNext fleet c.args.time (slice_index chain (length chain - 1)) c.args.first = rw (← back) (next_of_sole fleet c.args.time _ c.in-Some.mover.0 c.loop.ahead (c.loop.invariant.ahead fleet tells moves) (c.in-Some.ensures.sole fleet tells)) in
    elim c.if-long.branch [
      | then-long w ↦
          let three : 3 ≤ length chain = omega arith in
          rw (w.result-is, w.new.ensures) (ring_of_chain fleet c.args.time c.args.first chain (c.loop.invariant.chain fleet tells moves) follows three)
      | else-long w ↦ rw w.result-is tt
    ]

pub returns-then-eq-clause-only : goal.returns-then-eq-clause-only
returns-then-eq-clause-only g c fleet ring tells moves round starts =
    let chain : List ℕ = c.loop.chain.items in
    let some : 0 < length chain = omega (arith, c.loop.invariant.long) in
    let back : c.in-Some.mover.0 ≡ c.args.first = eqb-true _ _ (sym c.if-eq.ensures) in
    let follows : IsNext fleet c.args.time (slice_index chain (length chain - 1)) c.in-Some.mover.0 = next_of_sole fleet c.args.time _ c.in-Some.mover.0 c.loop.ahead (c.loop.invariant.ahead fleet tells moves) (c.in-Some.ensures.sole fleet tells) in
    let same : ring ≡ chain = ring_is_chain fleet c.args.time c.args.first chain (c.loop.invariant.chain fleet tells moves) ring round (c.loop.invariant.forced fleet tells moves ring round starts) c.in-Some.mover.0 follows starts back in
    elim c.if-long.branch [
      | then-long w ↦ rw (w.result-is, w.new.ensures) (ap Some (sym same))
      | else-long w ↦
          let three : 3 ≤ length chain = subst (λ (l : List ℕ). 3 ≤ length l) same round.three in
          absurd (omega arith)
    ]

pub returns-then-lt-clause-only : goal.returns-then-lt-clause-only
returns-then-lt-clause-only g c fleet ring tells moves round starts =
    let chain : List ℕ = c.loop.chain.items in
    let some : 0 < length chain = omega (arith, c.loop.invariant.long) in
    let differs : c.in-Some.mover.0 ≢ c.args.first = λ same. false≢true (c.if-eq.ensures ∙ eq-eqb _ _ same) in
    let follows : IsNext fleet c.args.time (slice_index chain (length chain - 1)) c.in-Some.mover.0 = next_of_sole fleet c.args.time _ c.in-Some.mover.0 c.loop.ahead (c.loop.invariant.ahead fleet tells moves) (c.in-Some.ensures.sole fleet tells) in
    let begins = c.loop.invariant.forced fleet tells moves ring round starts in
    elim c.then-lt.branch [
      | then-lt-via-then-lt w ↦ absurd (none_below fleet c.args.time c.args.first c.in-Some.mover.0 chain (c.loop.invariant.chain fleet tells moves) follows differs ring round starts begins (lt_says _ _ w.if-lt.ensures))
      | then-lt-via-else-lt+in_ok-insert-2+then-not-branch w ↦
          let seen = set_stale nat_cmp_total exact_unsigned c.loop.seen c.in-Some.mover.0 w.in_ok-insert-2.field-0 w.in_ok-insert-2.ensures.added w.if-not-branch.true in
          absurd (none_again fleet c.args.time c.args.first c.in-Some.mover.0 chain (c.loop.invariant.chain fleet tells moves) follows differs ring round starts begins ((c.loop.invariant.seen c.in-Some.mover.0).0 seen))
    ]

pub loop-preserved : goal.loop-preserved
loop-preserved g c =
    let chain : List ℕ = c.loop.chain.items in
    let some : 0 < length chain = omega (arith, c.loop.invariant.long) in
    let differs : c.in-Some.mover.0 ≢ c.args.first = λ same. false≢true (c.if-eq.ensures ∙ eq-eqb _ _ same) in
    let gains = set_gains nat_cmp_total exact_unsigned c.loop.seen c.insert-else-lt.new.self c.in-Some.mover.0 c.in_ok-insert-2.ensures.updates in
    let absent : Contains chain c.in-Some.mover.0 → ⊥ = λ has. set_fresh nat_cmp_total exact_unsigned c.loop.seen c.in-Some.mover.0 c.in_ok-insert-2.field-0 c.in_ok-insert-2.ensures.added c.if-not-branch.false ((c.loop.invariant.seen c.in-Some.mover.0).1 has) in
    let n : length (chain ++ c.in-Some.mover.0 ∷ []) ≡ length chain + 1 = length-append chain (c.in-Some.mover.0 ∷ []) in
    let at_end : slice_index (chain ++ c.in-Some.mover.0 ∷ []) (length (chain ++ c.in-Some.mover.0 ∷ []) - 1) ≡ c.in-Some.mover.0 = get_or_push chain c.in-Some.mover.0 0 (length (chain ++ c.in-Some.mover.0 ∷ []) - 1) (omega arith) in
    rw c.in_ok-push-2.ensures.items (record {
      ahead = λ fleet tells moves. subst (λ (a : ℕ). MovesTo fleet c.args.time a c.in-Some.mover.1) (sym at_end) (c.in-Some.ensures.to fleet tells);
      chain = λ fleet tells moves. chain_more fleet c.args.time c.args.first c.in-Some.mover.0 chain (c.loop.invariant.chain fleet tells moves) (next_of_sole fleet c.args.time _ c.in-Some.mover.0 c.loop.ahead (c.loop.invariant.ahead fleet tells moves) (c.in-Some.ensures.sole fleet tells)) (not_lt_says _ _ c.if-lt.ensures) absent;
      forced = λ fleet tells moves ring round starts. begins_more fleet c.args.time c.args.first chain (c.loop.invariant.chain fleet tells moves) ring round (c.loop.invariant.forced fleet tells moves ring round starts) c.in-Some.mover.0 (next_of_sole fleet c.args.time _ c.in-Some.mover.0 c.loop.ahead (c.loop.invariant.ahead fleet tells moves) (c.in-Some.ensures.sole fleet tells)) starts differs;
      seen = λ agent. (
        λ h. (push_iff chain c.in-Some.mover.0 agent).1 (elim ((gains agent).0 h) [ inl old ↦ inl ((c.loop.invariant.seen agent).0 old) | inr is ↦ inr is ]),
        λ h. (gains agent).1 (elim ((push_iff chain c.in-Some.mover.0 agent).0 h) [ inl old ↦ inl ((c.loop.invariant.seen agent).1 old) | inr is ↦ inr is ]),
      );
      numbers = λ agent h. elim ((push_iff chain c.in-Some.mover.0 agent).0 h) [ inl old ↦ c.loop.invariant.numbers agent old | inr is ↦ let low : c.in-Some.mover.0 < MOST_AGENT + 1 = omega arith in rw is low ];
      long = omega (arith, c.loop.invariant.long);
      starts = get_or_append_left chain (c.in-Some.mover.0 ∷ []) 0 0 some ∙ c.loop.invariant.starts;
    })

pub returns-clause-only : goal.returns-clause-only
returns-clause-only g c fleet ring tells moves round starts =
    let few = distinct_below (MOST_AGENT + 1) c.loop.chain.items (c.loop.invariant.chain fleet tells moves).distinct c.loop.invariant.numbers in
    absurd (omega (arith, c.loop.invariant.long))
