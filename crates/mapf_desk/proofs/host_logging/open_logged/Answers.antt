use Rattle.mapf_desk.proofs.HostLog.{opened_logged}
use Rattle.mapf_desk.proofs.host_logging.open_logged.Goals as goal

pub returns-clause-opened : goal.returns-clause-opened
returns-clause-opened g c =
    opened_logged c.ready_over-ready.result (λ ready. ready.0) _ (g.F.Folder.holds c.args.files.now) c.args.words.now.desk c.in-Ok.named _ _
    (g.F.Logs.had c.args.files.now c.args.name.now) _ c.in-Ok-open.opened.bytes.items
    c.in-Ok.ensures.read c.texts-texts.ensures.map c.texts-texts.ensures.scen c.in-Ok-open.ensures.text c.in-Ok-open.ensures.read
    c.ready_over-ready.ensures.opens c.ready_over-ready.ensures.kept
