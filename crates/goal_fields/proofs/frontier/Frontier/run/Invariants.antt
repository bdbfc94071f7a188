use Rattle.std.proofs.Common.{◌≡◌, ◌+◌, ◌≤◌}
use Rattle.goal_fields.specs.AStar.{IsSeekingFrom, most_work, work_left}
use Rattle.goal_fields.specs.declared.frontier.TheConstants.{MOST_BASE}
use Rattle.goal_fields.proofs.frontier.Frontier.run.Given as goal

abbrev pub invariant-loop-front : goal.invariant-loop-front
invariant-loop-front l = record {
  seeking : IsSeekingFrom l.self l.ends l.self.now.items;
  few : l.self.away + work_left l.self ≤ most_work l.self.grid.size;
  grid : l.self.grid ≡ l.fn.self.grid;
  low : l.self.base ≤ MOST_BASE;
}

abbrev pub decreases-loop-front : goal.decreases-loop-front
decreases-loop-front l = work_left l.self
