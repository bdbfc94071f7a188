use Rattle.std.proofs.Common.{◌≡◌, ℕ, ◌≤◌, List, length, take}
use Rattle.grid_cells.specs.Grid.{Chart}
use Rattle.plan_table.specs.declared.plans.Row.{Row}
use Rattle.desk_report.specs.Report.{AreLines}
use Rattle.live_report.specs.Lines.{AreOpenLines, AreBlockedIn}
use Rattle.live_report.proofs.Blocking.{Passed}
use Rattle.live_report.proofs.told_lines.marked.Given as goal

abbrev pub invariant-loop-line : goal.invariant-loop-line
invariant-loop-line l = record {
  lines : (grid : Chart) (rows : List (ℕ × Row)) → AreBlockedIn grid rows l.visits → AreOpenLines grid rows l.lines → AreLines grid (take l.line-index rows) l.all.items × Passed rows l.visits l.next l.line-index;
  many : length l.all.items ≡ l.line-index;
  within : l.next ≤ length l.visits;
}
