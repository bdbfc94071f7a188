use Rattle.std.proofs.Common.{◌∙◌, ap, sym}
use Rattle.desk_shared.specs.Passes.{Sharing}
use Rattle.shared_runs.proofs.ScriptSessions.{still_on, session_of}
use Rattle.shared_runs.proofs.scripts.serve_script.Goals as goal

pub returns-clause-owned : goal.returns-clause-owned
returns-clause-owned g c =
    let (last, served) = c.serve-ended.ensures.session in
    c.into_pass.ensures.owned ∙ ap (λ (d : Sharing). d.table_id) (still_on _ c.args.desk.now c.args.pass _ _ last _ _ _ c.new-window.ensures served)

pub returns-clause-session : goal.returns-clause-session
returns-clause-session g c =
    let (last, served) = c.serve-ended.ensures.session in
    session_of _ c.args.desk.now c.args.pass _ _ last _ _ _ c.args.text.now _ c.new-window.ensures c.new-reader.ensures.left c.into_pass.ensures.known (sym c.serve-ended.ensures.broken) served
