use Rattle.std.proofs.Common.{refl}
use Rattle.desk_shared.proofs.Unused.{numbers_none}
use Rattle.desk_shared.proofs.numbers.numbers_to.Goals as goal

pub loop-number-init : goal.loop-number-init
loop-number-init c = record { sized = refl; has = numbers_none 256 }
