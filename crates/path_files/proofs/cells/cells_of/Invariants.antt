use Rattle.std.proofs.Common.{◌≡◌, length}
use Rattle.path_files.specs.Cells.{parts_of, cells_from, cells_listed}
use Rattle.path_files.proofs.cells.cells_of.Given as goal

abbrev pub invariant-loop-part : goal.invariant-loop-part
invariant-loop-part l = cells_listed l.notation l.line l.text ≡ cells_from l.notation l.line l.front l.cells.items (parts_of l.rest)

abbrev pub decreases-loop-part : goal.decreases-loop-part
decreases-loop-part l = length l.rest
