use Rattle.std.proofs.Common.{rules, arith}
use Rattle.desk_shared.proofs.Unused.{merged}
use Rattle.desk_shared.proofs.numbers.merge.Goals as goal

pub returns : goal.returns
returns c = merged _ _ _ (search rules) (search rules) (λ u l. let past = c.loop-number-test.false in let long = c.told-unused in c.loop-number.invariant.done u (omega arith))
