use Rattle.std.proofs.Common.{◌∙◌, sym}
use Rattle.commit_log.proofs.Feeds.{one-more}
use Rattle.commit_log.proofs.reading.next_entry.Goals as goal

pub lines-preserved : goal.lines-preserved
lines-preserved c =
    let so_far = c.lines.invariant in
    one-more c.args.text.now c.lines.rest.now c.in-Some.line.now c.in-Some.behind.now so_far.0 c.lines.at so_far.1 so_far.2 so_far.3
    c.in-Some.ensures.1 (sym c.starts_with.ensures.value ∙ c.if-starts_with.false) c.in-Some.ensures.0
