use Rattle.std.proofs.Common.{◌≢◌, ◌+◌, inl, inr, Contains, refl, sym, subst, ◌∙◌, arith}
use mathlib.Core.Bool.{false≢true}
use Rattle.std.proofs.lemmas.Bool.{eqb-true, eq-eqb}
use Rattle.grid_cells.specs.declared.numbers.TheConstants.{MOST_AGENT}
use Rattle.mapf_rules.proofs.Distinct.{distinct_below}
use Rattle.mapf_rules.proofs.Walks.{goes_on, no_ring_seen, least_found, round_begins, round_on}
use Rattle.mapf_rules.proofs.rings.least_round.Goals as goal

pub loop-step-init : goal.loop-step-init
loop-step-init g c = record {
  moves = λ fleet tells moves. moves;
  on = λ fleet ring tells moves round has. round_begins fleet c.args.time c.args.agent c.args.to (omega arith) moves;
}

pub returns-in_err-mover-clause-least : goal.returns-in_err-mover-clause-least
returns-in_err-mover-clause-least g c fleet ring tells moves round has =
    let on = c.loop-step.invariant.on fleet ring tells moves round has in
    let there = goes_on fleet c.args.time c.args.agent on.seen c.loop-step.least.0 c.loop-step.least.1 c.loop-step.ahead on.walked ring round has in
    let found = c.in_err-mover.ensures.found fleet there.0 tells there.1 in
    cc

pub returns-then-eq-clause-least : goal.returns-then-eq-clause-least
returns-then-eq-clause-least g c fleet ring tells moves round has =
    let on = c.loop-step.invariant.on fleet ring tells moves round has in
    let back = eqb-true _ _ (sym c.if-eq.ensures) in
    let starts = least_found fleet c.args.time c.args.agent on.seen c.loop-step.least.0 c.loop-step.least.1 c.loop-step.ahead on.walked c.in_ok-mover.mover.0 (c.in_ok-mover.ensures.sole fleet tells) back ring round has in
    (c.loop-step.least.1, rw starts refl)

pub returns-then-eq-2-clause-least : goal.returns-then-eq-2-clause-least
returns-then-eq-2-clause-least g c fleet ring tells moves round has =
    let on = c.loop-step.invariant.on fleet ring tells moves round has in
    let apart : c.in_ok-mover.mover.0 ≢ c.args.agent = λ same. false≢true (c.if-eq.ensures ∙ eq-eqb _ _ same) in
    let again = subst (λ a. Contains on.seen a) (sym (eqb-true _ _ (sym c.if-eq-2.ensures))) on.mark in
    absurd (no_ring_seen fleet c.args.time c.args.agent on.seen c.loop-step.least.0 c.loop-step.least.1 c.loop-step.ahead on.walked c.in_ok-mover.mover.0 (c.in_ok-mover.ensures.sole fleet tells) again apart ring round has)

pub loop-step-preserved : goal.loop-step-preserved
loop-step-preserved g c =
    let apart : c.in_ok-mover.mover.0 ≢ c.args.agent = λ same. false≢true (c.if-eq.ensures ∙ eq-eqb _ _ same) in
    record {
      moves = λ fleet tells moves. elim c.lesser-least.ensures.one [
        | inl old ↦ rw old (c.loop-step.invariant.moves fleet tells moves)
        | inr new ↦ rw new (c.in_ok-mover.ensures.to fleet tells)
      ];
      on = λ fleet ring tells moves round has.
          round_on fleet c.args.time c.args.agent c.loop-step.step c.loop-step.marked c.loop-step.least.0 c.loop-step.least.1 c.loop-step.ahead (c.loop-step.invariant.on fleet ring tells moves round has) ring round has
          c.in_ok-mover.mover.0 (c.in_ok-mover.ensures.sole fleet tells) apart (omega arith) c.in_ok-mover.mover.1 (c.in_ok-mover.ensures.to fleet tells)
          c.lesser-least.result c.lesser-least.ensures.one c.lesser-least.ensures.first c.lesser-least.ensures.second c.mark_of-marked.result c.mark_of-marked.ensures;
    }

pub returns-clause-least : goal.returns-clause-least
returns-clause-least g c fleet ring tells moves round has =
    let on = c.loop-step.invariant.on fleet ring tells moves round has in
    let few = distinct_below (MOST_AGENT + 1) on.seen on.distinct on.numbers in
    absurd (omega (arith, on.many))
