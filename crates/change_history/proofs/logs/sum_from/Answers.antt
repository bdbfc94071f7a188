use Rattle.std.proofs.Common.{◌≡◌, ◌+◌, ◌∷◌, drop, sum, sym, ap, ◌∙◌, arith}
use Rattle.std.proofs.lemmas.List.{drop_more}
use Rattle.std.proofs.lemmas.List.Sums.{sum_by-cons}
use Rattle.change_history.proofs.Parts.{sum_behind}
use Rattle.change_history.proofs.logs.sum_from.Goals as goal

pub overflow_add-total : goal.overflow_add-total
overflow_add-total c =
    let counts = c.args.counts.now.items in
    let place = c.loop-place.place in
    let one = c.index.result.now in
    let rest = drop (place + 1) counts in
    let more : sum (drop place counts) ≡ one + sum rest =
    ap sum (drop_more counts place one (omega (arith, c.loop-place-test.true, c.len-place-end.ensures, c.args.counts.now.ok)) ∙ ap (λ x. x ∷ rest) (sym c.index.ensures)) ∙ sum_by-cons (λ x. x) one rest in
    omega (arith, more, c.loop-place.invariant, sum_behind counts c.args.first, c.requires)
