use Rattle.std.proofs.Common.{sym}
use Rattle.std.proofs.lemmas.Result.{IfOk-weaker}
use Rattle.mapf_desk.proofs.logging.outcome.Goals as goal

pub returns-in-Ok : goal.returns-in-Ok
returns-in-Ok g c = IfOk-weaker c.ended_so.result _ _ (λ log so. (so.0, rw (sym so.1, sym so.2, sym so.3) c.in-Ok.is)) c.ended_so.ensures
