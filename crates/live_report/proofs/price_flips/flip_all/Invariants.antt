use Rattle.std.proofs.Common.{◌≡◌, take}
use Rattle.grid_cells.specs.Grid.{Chart}
use Rattle.plan_table.specs.Route.{tracks_of}
use Rattle.plan_table.specs.declared.tracks.Mode.{Mode}
use Rattle.cost_ledger.specs.Ledger.{StandsForMap}
use Rattle.live_report.specs.Fleet.{AreOfFleet}
use Rattle.live_report.proofs.Turning.{turned}
use Rattle.live_report.proofs.price_flips.flip_all.Given as goal

abbrev pub invariant-loop-cell : goal.invariant-loop-cell
invariant-loop-cell l = (l.ledger.rows ≡ l.fn.costs.rows)
    × ((mode : Mode) (old : Chart) → AreOfFleet (tracks_of mode l.fn.costs.rows) l.fleet → old.size ≡ l.grid.size → StandsForMap l.fn.costs old → StandsForMap l.ledger (turned old l.grid (take l.cell-index l.cells)))
