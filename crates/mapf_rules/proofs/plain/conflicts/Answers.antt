use Rattle.std.proofs.Common.{arith}
use Rattle.plan_table.specs.Route.{tracks_of}
use Rattle.mapf_rules.proofs.Live.{stands_early}
use Rattle.mapf_rules.proofs.plain.conflicts.Goals as goal

pub loop-time-preserved : goal.loop-time-preserved
loop-time-preserved c entry = grind (arith, c.loop-time.invariant entry, c.in_ok-add_time.ensures.keeps entry, c.in_ok-add_time.ensures.has entry, c.in_ok-add_time.ensures.only entry)

pub returns : goal.returns
returns c = record {
  ascending = c.sorted.ensures.ascending;
  exact = λ entry. grind (arith, c.sorted.ensures.exact entry, c.loop-time.invariant entry, c.horizon-time-end.ensures.above, stands_early (tracks_of c.args.mode c.args.plans.now.rows) c.horizon-time-end.result c.horizon-time-end.ensures.above entry);
}
