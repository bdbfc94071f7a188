use Rattle.std.specs.Option.{option_copied}
use Rattle.std.proofs.Common.{ap, refl}
use Rattle.desk_io.proofs.looking.hold_named.Goals as goal

pub returns-in-Err-Refused-clause-unheld : goal.returns-in-Err-Refused-clause-unheld
returns-in-Err-Refused-clause-unheld g c = (c.in-Some.file.now, ap option_copied c.in-Some.is, refl)
