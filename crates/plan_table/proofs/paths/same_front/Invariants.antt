use Rattle.std.proofs.Common.{◌≡◌, ◌-◌, ◌≤◌}
use Rattle.std.specs.Prelude.{take}
use Rattle.plan_table.proofs.paths.same_front.Given as goal

abbrev pub invariant-loop-front : goal.invariant-loop-front
invariant-loop-front l = record {
  within : l.front ≤ l.end;
  same : take l.front l.one ≡ take l.front l.other;
}

abbrev pub decreases-loop-front : goal.decreases-loop-front
decreases-loop-front l = l.end - l.front

abbrev pub invariant-loop-front-2 : goal.invariant-loop-front-2
invariant-loop-front-2 l = record {
  within : l.front ≤ l.end;
  same : take l.front l.one ≡ take l.front l.other;
}

abbrev pub decreases-loop-front-2 : goal.decreases-loop-front-2
decreases-loop-front-2 l = l.end - l.front
