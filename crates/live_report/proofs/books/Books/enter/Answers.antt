use Rattle.std.proofs.Common.{◌≡◌, ◌+◌, min, Some, refl, ap, subst, ◌∙◌}
use Rattle.std.specs.Option.{option_map}
use Rattle.plan_table.specs.Route.{Route, route_of, route_in}
use Rattle.plan_table.specs.declared.tracks.Mode.{Mode}
use Rattle.where_index.specs.Index.{with_route}
use Rattle.where_index.specs.Records.{nothing, records_apart}
use Rattle.live_report.specs.Fleet as fleets
use Rattle.change_history.specs.Moved.{Tell}
use Rattle.live_report.specs.Books.{BooksState, fleet_in_mode}
use Rattle.live_report.proofs.Keeping.{keep_with}
use Rattle.live_report.proofs.Rows.{in_place}
use Rattle.live_report.proofs.books.Books.enter.Goals as goal

pub with_line-lines-requires : goal.with_line-lines-requires
with_line-lines-requires c =
    let was = rw c.into_parts-fleet.ensures at c.requires.know.keep in
    let rows = c.requires.know.rows in
    let prices = c.in-Ok-put.ensures.kept rows (rw c.grid.ensures.grid was.prices) in
    rw c.fields.ensures ((prices.goals c.args.row.now.goal).1 (c.args.agent, record { row = c.args.row.now; live = in_place rows c.args.agent (Some c.args.row.now); aims = refl }))

pub returns-clause-kept : goal.returns-clause-kept
returns-clause-kept c = λ rows keep has.
    let mode = c.args.scene.now.mode in
    let was = rw c.into_parts-fleet.ensures at keep in
    let route : route_of c.track.result ≡ route_in mode c.args.row.now = c.track.ensures ∙ ap (λ (m : Mode). route_in m c.args.row.now) c.mode.ensures in
    let entered = c.in-Ok.ensures.books (fleet_in_mode mode rows) was.fleet (ap (option_map (route_in mode)) has) in
    let fleet = subst (λ (r : Route). fleets.AreOfFleet (with_route (fleet_in_mode mode rows) c.args.agent (Some r)) c.in-Ok.fleet) route entered in
    let prices = rw c.grid.ensures.grid at (c.in-Ok-put.ensures.kept rows (rw c.grid.ensures.grid was.prices)) in
    let lines = c.with_line-lines.ensures c.args.scene.now.grid rows (rw c.fields.ensures prices.fields) was.lines in
    keep_with mode c.args.scene.now.grid rows c.args.agent (Some c.args.row.now) _ fleet prices lines

pub returns-clause-touched : goal.returns-clause-touched
returns-clause-touched c =
    let route : route_of c.track.result ≡ route_in c.args.scene.now.mode c.args.row.now = c.track.ensures ∙ ap (λ (m : Mode). route_in m c.args.row.now) c.mode.ensures in
    subst (λ (r : Route). c.in-Ok.fleet.index.touched ≡ min (c.args.self.fleet.index.touched + records_apart nothing r) 18446744073709551615) route (rw c.into_parts-fleet.ensures c.in-Ok.ensures.touched)

pub returns-clause-follows : goal.returns-clause-follows
returns-clause-follows c = λ first tell. c.in-Ok.ensures.follows first (subst (λ (b : BooksState). Tell first b.fleet.conflicts c.args.moves.now) c.into_parts-fleet.ensures tell)
