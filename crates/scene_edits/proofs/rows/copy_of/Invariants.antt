use Rattle.std.proofs.Common.{◌≡◌, take}
use Rattle.scene_edits.proofs.rows.copy_of.Given as goal

abbrev pub invariant-loop-rank : goal.invariant-loop-rank
invariant-loop-rank l = l.copy.rows ≡ take l.rank l.plans.rows
