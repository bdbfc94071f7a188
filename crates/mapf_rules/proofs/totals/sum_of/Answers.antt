use Rattle.std.proofs.Common.{arith}
use Rattle.mapf_rules.proofs.Adding.{given_more, sum_more}
use Rattle.mapf_rules.proofs.totals.sum_of.Goals as goal

pub loop-each-preserved : goal.loop-each-preserved
loop-each-preserved c =
    let more = sum_more c.args.given.now c.loop-each.each-index c.in-Some.number c.loop-each-test.true c.in-Some.is in
    record {
      given = given_more c.args.given.now c.loop-each.each-index c.in-Some.number c.loop-each-test.true c.in-Some.is c.loop-each.invariant.given;
      total = omega (arith, c.wide-total.ensures.is, c.loop-each.invariant.total);
      bound = omega (arith, c.wide-total.ensures.bound, c.loop-each.invariant.bound);
    }
