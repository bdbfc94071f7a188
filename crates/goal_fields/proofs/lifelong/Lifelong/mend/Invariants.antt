use Rattle.std.proofs.Common.{take}
use Rattle.goal_fields.specs.Lifelong.{IsTouched}
use Rattle.goal_fields.proofs.lifelong.Lifelong.mend.Given as goal

abbrev pub invariant-loop-cell : goal.invariant-loop-cell
invariant-loop-cell l = IsTouched l.fn.self l.self (take l.cell-index l.changed)
