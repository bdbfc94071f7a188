use Rattle.std.proofs.Common.{◌-◌, ◌*◌, ℕ}
use Rattle.cell_queue.specs.Queue.{area}
use Rattle.goal_fields.specs.Lifelong.{IsInRepair, KeepsTarget}
use Rattle.goal_fields.specs.Target.{HaveCounted}
use Rattle.goal_fields.proofs.lifelong.Lifelong.settle.Given as goal

abbrev pub invariant-loop : goal.invariant-loop
invariant-loop l = record { repairing : (floor : ℕ) × IsInRepair l.fn.self.g.items l.self floor; kept : KeepsTarget l.fn.self l.self; all_told : HaveCounted l.self.queue.taken l.fn.self.queue.total l.self.queue.total }

abbrev pub decreases-loop : goal.decreases-loop
decreases-loop l = 2 * area l.fn.self.grid.size - l.self.queue.taken
