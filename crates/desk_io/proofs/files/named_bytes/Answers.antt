use Rattle.std.specs.Option.{option_copied}
use Rattle.std.proofs.Common.{ap}
use Rattle.desk_io.proofs.files.named_bytes.Goals as goal

pub returns-in-Err-clause-unread : goal.returns-in-Err-clause-unread
returns-in-Err-clause-unread g c = (c.in-Some.file.now, ap option_copied c.in-Some.is, c.in-Err.ensures.unread)
