use Rattle.std.proofs.Common.{take}
use Rattle.goal_fields.specs.Adopting.{IsAdopting}
use Rattle.goal_fields.proofs.maps.adopt.Given as goal

abbrev pub invariant-loop-cell : goal.invariant-loop-cell
invariant-loop-cell l = IsAdopting l.fn.map l.map l.grid (take l.cell-index l.changed)
