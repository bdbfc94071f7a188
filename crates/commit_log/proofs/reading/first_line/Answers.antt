use Rattle.std.proofs.Common.{get_or, arith, add-one, eq-eqb}
use Rattle.std.proofs.lemmas.Bool.{eqb-true}
use Rattle.std.proofs.lemmas.List.{take_rest}
use Rattle.commit_log.proofs.Feeds.{no-feed, one-line-front, feed-parts}
use Rattle.commit_log.proofs.reading.first_line.Goals as goal

pub returns-in_err-end : goal.returns-in_err-end
returns-in_err-end c =
    let text = c.args.text.now in
    rw c.from_residual.ensures (no-feed text (λ k low same. c.in_err-end.ensures k (omega arith) low (eq-eqb (get_or text k 0) 10 same)))

pub returns : goal.returns
returns c =
    let found = c.in_ok-end.ensures in
    let text = c.args.text.now in
    rw (take_rest, add-one) (feed-parts text c.in_ok-end.end found.0.high (eqb-true _ _ found.1), one-line-front text c.in_ok-end.end (omega (arith, found.0.high)) (λ k low same. found.0.before k (omega arith) low (eq-eqb (get_or text k 0) 10 same)))
