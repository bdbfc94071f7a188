use Rattle.std.proofs.Common.{ap, length, sym}
use Rattle.mapf_desk.proofs.LogDesk.{of_four, settled_log}
use Rattle.mapf_desk.proofs.log_resuming.resumed.Goals as goal

pub returns-in-Some : goal.returns-in-Some
returns-in-Some g c =
    of_four c.settled.result _ _ _ _ _ c.settled.ensures.same c.settled.ensures.kept c.settled.ensures.count c.settled.ensures.check
    (λ writer same kept count check told. settled_log c.args.opened.bytes.items c.args.had.now c.in-Some.read _ _ _ _ c.end_of.result _ _
    c.in-Some.is c.end_of.ensures (c.in-Ok.ensures c.args.opened.bytes.items told (ap length (sym c.as_slice-size.ensures.value))) same kept count check)
