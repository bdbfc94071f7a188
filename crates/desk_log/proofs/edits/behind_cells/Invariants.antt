use Rattle.std.proofs.Common.{◌≡◌, List, map, length}
use Rattle.std.specs.List.{All}
use Rattle.grid_cells.specs.Cell.{Point}
use Rattle.desk_report.specs.LineText.{cell_text}
use Rattle.journal_text.specs.Ranges.{IsCell}
use Rattle.desk_log.specs.Spaced.{spaced}
use Rattle.desk_log.proofs.edits.behind_cells.Given as goal

-- the cells so far, and what stands behind them
abbrev pub invariant-cells : goal.invariant-cells
invariant-cells l = (cells : List Point) × All IsCell cells × (l.text ≡ spaced (map cell_text cells) l.rest)

abbrev pub decreases-cells : goal.decreases-cells
decreases-cells l = length l.rest
