use Rattle.std.proofs.Common.{◌∷◌}
use Rattle.desk_report.proofs.Fronts.{err-of}
use Rattle.desk_report.proofs.Lines.{front-item}
use Rattle.solver_check.proofs.checks.json.lists.put_more.Goals as goal

pub returns-in_err-put_next-clause-err : goal.returns-in_err-put_next-clause-err
returns-in_err-put_next-clause-err g c =
    err-of c.from_residual.result (front-item (λ item. 44 ∷ g.T.Told.json item) c.args.items.now _ _ _ c.loop-item.item-index c.item-item.result c.item-item.is c.loop-item-test.true c.loop-item.invariant.out c.in_err-put_next.ensures.err)
