use Rattle.std.proofs.Common.{◌∷◌}
use Rattle.grid_cells.specs.Cell.{Point}
use Rattle.desk_report.specs.LineText.{cell_text}
use Rattle.desk_report.proofs.Fronts.{err-of}
use Rattle.desk_report.proofs.Lines.{front-item}
use Rattle.desk_pages.proofs.courses.put_cells.Goals as goal

pub returns-in_err-put_next-clause-err : goal.returns-in_err-put_next-clause-err
returns-in_err-put_next-clause-err g c =
    err-of c.from_residual.result (front-item (λ (cell : Point). 32 ∷ cell_text cell) c.args.cells.now _ _ _ c.loop-cell.cell-index c.cell-item.result c.cell-item.is c.loop-cell-test.true c.loop-cell.invariant.out c.in_err-put_next.ensures.err)
