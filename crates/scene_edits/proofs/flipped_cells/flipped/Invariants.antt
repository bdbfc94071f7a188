use Rattle.std.proofs.Common.{◌≡◌, take}
use Rattle.scene_edits.proofs.FlippedCells.{flips_of}
use Rattle.scene_edits.proofs.flipped_cells.flipped.Given as goal

abbrev pub invariant-loop-change : goal.invariant-loop-change
invariant-loop-change l = l.cells.items ≡ flips_of (take l.change-index l.changes)
