use Rattle.std.proofs.Common.{rules}
use Rattle.live_report.proofs.AimOrder.{found_between}
use Rattle.live_report.proofs.aims.Aims.has_between.Goals as goal

pub returns : goal.returns
returns c =
    let part = rw (c.new.ensures.start, c.new.ensures.end) at (c.range.ensures.in_range (search rules)) in
    rw (← c.self.view_is) (found_between c.self.inside.aims c.args.low c.args.high c.range.result c.next.new.self c.next.result c.is_some.result part c.next.ensures.steps c.is_some.ensures)
