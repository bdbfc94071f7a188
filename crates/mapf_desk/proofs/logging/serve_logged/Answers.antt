use Rattle.solver_check.specs.Opens.{bytes_of}
use Rattle.mapf_desk.proofs.LogSession.{has_logged}
use Rattle.mapf_desk.proofs.logging.serve_logged.Goals as goal

pub returns-in-Ok-ended-clause-logged : goal.returns-in-Ok-ended-clause-logged
returns-in-Ok-ended-clause-logged g c =
    has_logged (g.F.Folder.holds c.args.files.now) c.args.words.now c.in-Ok.named _ _ (bytes_of c.texts.result.map) (bytes_of c.texts.result.scen)
    c.in-Ok-open.opened.bytes.items (g.F.Logs.had c.args.files.now c.args.name.now) _ _ _ (g.F.Logs.has_left c.args.files.now c.args.name.now)
    c.in-Ok.ensures.read c.texts.ensures.map c.texts.ensures.scen c.in-Ok-open.ensures.text c.in-Ok-open.ensures.read c.close.ensures c.in-Ok-ended.ensures
