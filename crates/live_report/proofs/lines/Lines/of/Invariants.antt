use Rattle.std.proofs.Common.{take}
use Rattle.grid_cells.specs.Grid.{Chart}
use Rattle.goal_fields.specs.Held.{StandFor}
use Rattle.live_report.specs.Lines.{AreOpenLines}
use Rattle.live_report.proofs.lines.Lines.of.Given as goal

abbrev pub invariant-loop-rank : goal.invariant-loop-rank
invariant-loop-rank l = (grid : Chart) → StandFor grid l.fields.fields → AreOpenLines grid (take l.rank l.plans.rows) l.lines.items
