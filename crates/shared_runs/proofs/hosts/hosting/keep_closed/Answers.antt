use Rattle.std.proofs.Common.{◌∙◌, sym}
use Rattle.shared_runs.proofs.KeptLog.{closed_kept, failed_kept}
use Rattle.shared_runs.proofs.hosts.hosting.keep_closed.Goals as goal

pub returns-then-has_failed : goal.returns-then-has_failed
returns-then-has_failed g c head start made closed had = failed_kept _ _ _ _ _ _ start made (sym c.has_failed.ensures ∙ c.if-has_failed.true) had

pub returns : goal.returns
returns g c head start made closed had =
    closed_kept c.keep_rest-kept.result _ _ _ _ _ _ _ _ _ _ head (sym c.has_failed.ensures ∙ c.if-has_failed.false) c.keep_rest-kept.ensures.failed start made c.journal.result.now (c.journal.ensures.is ∙ closed)
    (c.keep_rest-kept.ensures.kept head) (c.keep_rest-kept.ensures.left head) had
