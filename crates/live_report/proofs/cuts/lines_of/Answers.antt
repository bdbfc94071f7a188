use Rattle.std.proofs.Common.{◌≡◌, true, false, sym, ◌∙◌}
use Rattle.std.proofs.lemmas.List.{take_all}
use Rattle.desk_report.specs.Cut.{is_one}
use Rattle.live_report.proofs.NamesOne.{passes_more, fails_more}
use Rattle.live_report.proofs.cuts.lines_of.Goals as goal

pub loop-line-preserved-then-not-contains : goal.loop-line-preserved-then-not-contains
loop-line-preserved-then-not-contains c =
    let apart : is_one c.args.agents.now c.line-item.result.agent ≡ false = sym c.contains.ensures.value ∙ c.if-not-contains.true in
    fails_more (λ line. is_one c.args.agents.now line.agent) c.args.lines.now c.loop-line.line-index c.line-item.result c.loop-line-test.true c.line-item.is c.loop-line.kept.items c.loop-line.invariant apart

pub loop-line-preserved : goal.loop-line-preserved
loop-line-preserved c =
    let among : is_one c.args.agents.now c.line-item.result.agent ≡ true = sym c.contains.ensures.value ∙ c.if-not-contains.false in
    rw c.in_ok-push.ensures.items (passes_more (λ line. is_one c.args.agents.now line.agent) c.args.lines.now c.loop-line.line-index c.line-item.result c.loop-line-test.true c.line-item.is c.loop-line.kept.items c.loop-line.invariant among)
