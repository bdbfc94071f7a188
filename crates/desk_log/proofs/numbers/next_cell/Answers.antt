use Rattle.std.proofs.Common.{arith}
use Rattle.desk_log.proofs.Spelled.{cell_is}
use Rattle.desk_log.proofs.numbers.next_cell.Goals as goal

pub returns : goal.returns
returns c =
    cell_is c.args.text.now c.in_ok-word.word.now c.in_ok-column.comma.now c.in_ok-after.after.now c.in_ok-row.rest.now c.in_ok-column.column c.in_ok-row.row
    (omega (arith, c.in_ok-column.ensures.0, c.from-most.ensures)) (omega (arith, c.in_ok-row.ensures.0, c.from-most.ensures))
    c.in_ok-word.ensures c.in_ok-column.ensures.1 c.in_ok-after.ensures c.in_ok-row.ensures.1
