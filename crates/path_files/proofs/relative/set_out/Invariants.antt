use Rattle.std.proofs.Common.{◌≡◌, ◌++◌, drop}
use Rattle.path_files.specs.Moves.{set_out}
use Rattle.path_files.proofs.relative.set_out.Given as goal

abbrev pub invariant-loop-cell : goal.invariant-loop-cell
invariant-loop-cell l = l.cells.items ++ set_out l.start (drop l.cell-index l.path) ≡ set_out l.start l.path
