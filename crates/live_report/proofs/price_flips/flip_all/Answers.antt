use Rattle.std.proofs.Common.{List, ℕ, [], ◌≡◌, ◌+◌, refl, sym, subst, ◌∙◌, take, arith}
use Rattle.std.proofs.lemmas.List.{take_all}
use Rattle.plan_table.specs.Route.{tracks_of}
use Rattle.plan_table.specs.declared.plans.Row.{Row}
use Rattle.cost_ledger.specs.Ledger.{StandsForMap}
use Rattle.live_report.specs.Fleet.{AreOfFleet}
use Rattle.live_report.proofs.Turning.{turned, turned_none, turned_all, turned_but, turned_at}
use Rattle.live_report.proofs.Standing.{stands_there}
use Rattle.live_report.proofs.price_flips.flip_all.Goals as goal

pub loop-cell-init : goal.loop-cell-init
loop-cell-init c = (refl, λ mode old books size stands. stands_there c.args.costs old (turned old c.args.grid.now []) (turned_none old c.args.grid.now size) stands)

pub loop-cell-preserved : goal.loop-cell-preserved
loop-cell-preserved c =
    let flipped = c.in_ok-ledger.ensures in
    let k = c.loop-cell.cell-index in
    let cells = c.args.cells.now in
    let cell = c.cell-item.result in
    let grid = c.args.grid.now in (
      flipped.rows ∙ c.loop-cell.invariant.0,
      λ mode old books size stands. flipped.stands mode (turned old grid (take k cells)) (turned old grid (take (k + 1) cells)) (subst (λ (rows : List (ℕ × Row)). AreOfFleet (tracks_of mode rows) c.args.fleet.now) (sym c.loop-cell.invariant.0) books) (c.loop-cell.invariant.1 mode old books size stands) (turned_but old grid cells k cell c.loop-cell-test.true (sym c.cell-item.is)) (turned_at old grid cells k cell c.loop-cell-test.true (sym c.cell-item.is)),
    )

pub returns-clause-stands : goal.returns-clause-stands
returns-clause-stands c = λ mode old books size covers stands.
    let grid = c.args.grid.now in
    let all : take c.loop-cell.cell-index c.args.cells.now ≡ c.args.cells.now = take_all c.loop-cell.cell-index c.args.cells.now (omega arith) in
    stands_there c.loop-cell.ledger (turned old grid c.args.cells.now) grid (turned_all old grid size c.args.cells.now covers)
    (subst (λ cells. StandsForMap c.loop-cell.ledger (turned old grid cells)) all (c.loop-cell.invariant.1 mode old books size stands))
