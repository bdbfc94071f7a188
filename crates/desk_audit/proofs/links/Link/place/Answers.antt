use Rattle.std.proofs.Common.{arith}
use Rattle.desk_audit.proofs.Codes.{place_none, place_before}
use Rattle.desk_audit.proofs.links.Link.place.Goals as goal

pub returns-then-self-eq0 : goal.returns-then-self-eq0
returns-then-self-eq0 c = grind (arith, c.self.view_is, place_none c.self.inside.code c.if-self-eq0.true)

pub returns-else-self-eq0 : goal.returns-else-self-eq0
returns-else-self-eq0 c = grind (arith, c.self.view_is, place_before c.self.inside.code c.if-self-eq0.false)
