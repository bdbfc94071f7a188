use Rattle.std.proofs.Common.{◌-◌, ◌≤◌, length}
use Rattle.desk_commits.specs.Stale.{IsFreshSince}
use Rattle.desk_commits.proofs.stale.last_naming.Given as goal

abbrev pub invariant-loop-number : goal.invariant-loop-number
invariant-loop-number l = record {
  within : l.number ≤ length l.journal;
  fresh : IsFreshSince l.journal l.number l.thing;
}

abbrev pub decreases-loop-number : goal.decreases-loop-number
decreases-loop-number l = l.number - l.base
