use Rattle.std.proofs.Common.{sym, ◌∙◌}
use Rattle.mapf_desk.proofs.HostLog.{hosted_logged, left_with, unfailed}
use Rattle.mapf_desk.proofs.host_logging.host_logged.Goals as goal

pub returns : goal.returns
returns g c =
    let (bytes, told, opened) = c.in-Ok.ensures.opened in
    let had = g.F.Logs.had c.args.files.now c.args.name.now in
    let has_left = g.F.Logs.has_left c.args.files.now c.args.name.now in
    let kept = rw c.in-Some.is at c.in-Ok-host_at.ensures.kept in
    let left = rw c.into_log.ensures at c.close.ensures in
    hosted_logged (g.F.Folder.holds c.args.files.now) had has_left c.args.words.now bytes c.in-Ok.ready.0 c.in-Ok-host_at.ended.0 c.end_hosted-ended.result
    (record {
      named = opened.named;
      texts = opened.texts;
      is = (
        opened.is.0,
        λ is. left_with has_left _ _ _ _ _ _ left (unfailed _ _ _ _ _ _ _ (sym c.has_failed.ensures ∙ c.if-has_failed.false) (kept _ (opened.is.1 is))),
      );
    })
    told c.in-Ok-host_at.ensures.hosted
    c.end_hosted-ended.ensures.end
