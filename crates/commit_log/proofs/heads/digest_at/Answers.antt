use Rattle.std.proofs.Common.{arith}
use Rattle.commit_log.proofs.Digests.{too-short}
use Rattle.commit_log.proofs.heads.digest_at.Goals.{then-at-text-via-then-at-text, then-at-text-via-else-at-text+then-text-at-lt64}
use Rattle.commit_log.proofs.heads.digest_at.Goals as goal

pub returns-then-at-text : goal.returns-then-at-text
returns-then-at-text c =
    too-short c.args.at c.args.text.now (elim c.then-at-text.branch [
      | then-at-text-via-then-at-text w ↦ omega (arith, w.if-at-text.true)
      | then-at-text-via-else-at-text+then-text-at-lt64 w ↦ omega (arith, w.if-at-text.false, w.if-text-at-lt64.true)
    ])
