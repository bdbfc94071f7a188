use Rattle.std.proofs.Common.{◌≡◌, take}
use Rattle.scene_edits.specs.Tasks.{rows_from}
use Rattle.scene_edits.proofs.tasks.rows_of.Given as goal

abbrev pub invariant-loop-index : goal.invariant-loop-index
invariant-loop-index l = l.plans.rows ≡ rows_from 0 (take l.index l.tasks)
