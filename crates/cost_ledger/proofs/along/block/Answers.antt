use Rattle.std.proofs.Common.{arith}
use Rattle.cost_ledger.proofs.along.block.Goals as goal

pub loop-time-preserved : goal.loop-time-preserved
loop-time-preserved c = λ v. grind (arith, c.loop-time.invariant v, c.in_ok-block_at.ensures v)

pub returns : goal.returns
returns c = λ v. grind (arith, c.loop-time.invariant v)
