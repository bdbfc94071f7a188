use Rattle.std.proofs.Common.{sym, ◌∙◌}
use Rattle.desk_log.proofs.Growth.{line_grows}
use Rattle.desk_log.proofs.headed.HeadedKeeperKeeperDesk.keep.Goals as goal

pub returns-clause-kept : goal.returns-clause-kept
returns-clause-kept g c before logged answered =
    let grows = line_grows before c.args.desk.now answered in
    rw (sym c.journal.ensures.is) (c.keep_rest.ensures.kept g.H.HasHead.head before.journal grows.later logged (c.journal.ensures.is ∙ grows.is))

pub returns-clause-left : goal.returns-clause-left
returns-clause-left g c before logged answered =
    let grows = line_grows before c.args.desk.now answered in
    rw (sym c.journal.ensures.is) (c.keep_rest.ensures.left g.H.HasHead.head before.journal grows.later logged (c.journal.ensures.is ∙ grows.is))
