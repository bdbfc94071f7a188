use Rattle.std.proofs.Common.{arith}
use Rattle.live_report.proofs.Parts.{not_all, parts_more, parts_sum_more}
use Rattle.live_report.proofs.totals.sum_of_gaps.Goals as goal

pub returns-in-None : goal.returns-in-None
returns-in-None c = not_all (λ line. line.gap) c.args.lines.now c.loop-line.line-index c.line-item.result c.loop-line-test.true c.line-item.is c.in-None.is

pub loop-line-preserved : goal.loop-line-preserved
loop-line-preserved c =
    let more = parts_sum_more (λ line. line.gap) c.args.lines.now c.loop-line.line-index c.line-item.result c.loop-line-test.true c.line-item.is c.in-Some.gap c.in-Some.is in
    record {
      given = parts_more (λ line. line.gap) c.args.lines.now c.loop-line.line-index c.line-item.result c.loop-line-test.true c.line-item.is c.in-Some.gap c.in-Some.is c.loop-line.invariant.given;
      total = omega (arith, c.wide-total.ensures.is, c.loop-line.invariant.total);
      bound = omega (arith, c.wide-total.ensures.bound, c.loop-line.invariant.bound);
    }
