use Rattle.std.proofs.Common.{◌≡◌, ℕ, drop, ap, ◌∙◌, sym}
use Rattle.desk_commits.specs.State.{after}
use Rattle.shared_runs.proofs.KeptLog.{given_up, rest_kept}
use Rattle.shared_runs.proofs.hosts.scribes.keep_rest.Goals as goal

pub returns-in_default-clause-kept : goal.returns-in_default-clause-kept
returns-in_default-clause-kept g c head had =
    rw c.give_up.ensures.writer
    (given_up head _ _ _ _ _ _ c.args.pass.now.known.start.journal c.args.pass.now.known.made c.ask.new.pass.known.made (sym c.has_failed.ensures ∙ c.if-has_failed.false) c.give_up.ensures.failed c.ask.ensures.answer.goes_on.seen had)

pub returns-clause-kept : goal.returns-clause-kept
returns-clause-kept g c head had =
    let start = c.args.pass.now.known.start in
    let made = c.ask.new.pass.known.made in
    let entries = c.as_slice.result.now in
    let asked : entries ≡ drop c.args.keeper.now.writer.count (after start made).journal =
    c.as_slice.ensures.value ∙ c.in-Ok.ensures.answer.answered ∙ ap (λ (n : ℕ). drop n (after start made).journal) c.count-count.ensures in
    rest_kept c.keep_more-kept.result _ _ _ _ _ _ _ _ _ _ head (sym c.has_failed.ensures ∙ c.if-has_failed.false) c.keep_more-kept.ensures.failed start c.args.pass.now.known.made made entries
    c.ask.ensures.answer.goes_on.seen asked (c.keep_more-kept.ensures.kept head) (c.keep_more-kept.ensures.left head) had
