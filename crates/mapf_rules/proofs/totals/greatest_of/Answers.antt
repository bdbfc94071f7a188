use Rattle.std.proofs.Common.{arith}
use Rattle.std.proofs.lemmas.Bool.Decides.{nat_tests}
use Rattle.mapf_rules.proofs.Adding.{given_more, max_more}
use Rattle.mapf_rules.proofs.totals.greatest_of.Goals as goal

pub loop-each-preserved : goal.loop-each-preserved
loop-each-preserved c = record {
  given = given_more c.args.given.now c.loop-each.each-index c.in-Some.number c.loop-each-test.true c.in-Some.is c.loop-each.invariant.given;
  most = grind (arith, nat_tests, max_more c.args.given.now c.loop-each.each-index c.in-Some.number c.loop-each-test.true c.in-Some.is);
}
