use Rattle.std.specs.Option.{option_copied}
use Rattle.std.proofs.Common.{ap}
use Rattle.mapf_desk.proofs.reading.hold_file.Goals as goal

pub returns-in-Err-clause-unheld : goal.returns-in-Err-clause-unheld
returns-in-Err-clause-unheld g c = (c.in-Some.file.now, ap option_copied c.in-Some.is, c.in-Err.ensures.unheld)
