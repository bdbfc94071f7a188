use Rattle.std.proofs.Common.{◌≡◌, true, false, sym, ◌∙◌}
use Rattle.std.proofs.lemmas.List.{take_all}
use Rattle.desk_report.specs.Cut.{is_one}
use Rattle.live_report.proofs.NamesOne.{passes_more, fails_more}
use Rattle.live_report.proofs.cuts.visits_of.Goals as goal

pub loop-visit-preserved-then-not-contains : goal.loop-visit-preserved-then-not-contains
loop-visit-preserved-then-not-contains c =
    let apart : is_one c.args.agents.now c.visit-item.result.agent ≡ false = sym c.contains.ensures.value ∙ c.if-not-contains.true in
    fails_more (λ visit. is_one c.args.agents.now visit.agent) c.args.visits.now c.loop-visit.visit-index c.visit-item.result c.loop-visit-test.true c.visit-item.is c.loop-visit.kept.items c.loop-visit.invariant apart

pub loop-visit-preserved : goal.loop-visit-preserved
loop-visit-preserved c =
    let among : is_one c.args.agents.now c.visit-item.result.agent ≡ true = sym c.contains.ensures.value ∙ c.if-not-contains.false in
    rw c.in_ok-push.ensures.items (passes_more (λ visit. is_one c.args.agents.now visit.agent) c.args.visits.now c.loop-visit.visit-index c.visit-item.result c.loop-visit-test.true c.visit-item.is c.loop-visit.kept.items c.loop-visit.invariant among)
