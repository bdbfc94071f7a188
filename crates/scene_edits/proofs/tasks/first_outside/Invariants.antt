use Rattle.std.proofs.Common.{All, take}
use Rattle.scene_edits.specs.Tasks.{IsTaskOn}
use Rattle.scene_edits.proofs.tasks.first_outside.Given as goal

abbrev pub invariant-loop-index : goal.invariant-loop-index
invariant-loop-index l = All (IsTaskOn l.fn.size) (take l.index l.tasks)
