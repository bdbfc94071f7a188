use Rattle.std.proofs.Common.{take}
use Rattle.grid_cells.specs.Grid.{Chart}
use Rattle.live_report.specs.Looks.{AreCurrent, IsLook}
use Rattle.live_report.specs.Prices.{Rows}
use Rattle.live_report.proofs.looks.look_at.Given as goal

abbrev pub invariant-loop-agent : goal.invariant-loop-agent
invariant-loop-agent l = (grid : Chart) (rows : Rows) → AreCurrent grid rows l.lines l.costs → IsLook grid rows (take l.agent-index l.agents) l.look
