use Rattle.std.proofs.Common.{arith}
use Rattle.desk_audit.proofs.Codes.{place_next}
use Rattle.desk_audit.proofs.links.Link.to.Goals as goal

pub returns : goal.returns
returns c = grind (arith, c.in_ok-code.ensures, c.in_ok-code.is, c.checked_add.ensures, place_next c.args.place)
