use Rattle.std.proofs.lemmas.Result.{IfOk-at_ok, IfOk-weaker}
use Rattle.solver_check.specs.Opens.{bytes_of}
use Rattle.mapf_desk.proofs.LogSession.{sat_to_end}
use Rattle.mapf_desk.proofs.logging.sit_typed.Goals as goal

pub returns : goal.returns
returns g c =
    IfOk-weaker c.outcome.result _ _
    (λ log so. sat_to_end c.args.words.now (bytes_of c.args.texts.map) (bytes_of c.args.texts.scen) c.args.opened.bytes.items _ _ _ so.0 _ (IfOk-at_ok _ so.1 c.sit-ended.ensures))
    c.outcome.ensures
