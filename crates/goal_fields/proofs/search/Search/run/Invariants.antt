use Rattle.std.proofs.Common.{◌-◌}
use Rattle.cell_queue.specs.Queue.{area}
use Rattle.goal_fields.specs.Search.{IsSearching, KeepsMap}
use Rattle.goal_fields.proofs.search.Search.run.Given as goal

abbrev pub invariant-loop-self : goal.invariant-loop-self
invariant-loop-self l = record { searching : IsSearching l.self; same_map : KeepsMap l.fn.self l.self }

abbrev pub decreases-loop-self : goal.decreases-loop-self
decreases-loop-self l = area l.fn.self.grid.size - l.self.head
