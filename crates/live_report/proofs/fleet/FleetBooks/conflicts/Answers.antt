use Rattle.std.proofs.lemmas.Result.{IfOk-weaker}
use Rattle.live_report.proofs.fleet.FleetBooks.conflicts.Goals as goal

pub returns : goal.returns
returns c = IfOk-weaker c.listed.result _ _ (λ entries lists fleet are. let was = rw (← c.self.view_is) at are in lists fleet was.entries) c.listed.ensures
