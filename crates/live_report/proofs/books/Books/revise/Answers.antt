use Rattle.std.proofs.Common.{◌≡◌, ◌+◌, min, Some, refl, sym, ap, subst, ◌∙◌, arith}
use Rattle.std.specs.Option.{option_map}
use Rattle.std.proofs.lemmas.Bool.Decides.{nat_tests}
use Rattle.std.proofs.lemmas.Grind.{common_steps}
use Rattle.std.proofs.lemmas.Option.{gets}
use Rattle.plan_table.specs.Route.{Route, route_of, route_in}
use Rattle.plan_table.specs.declared.plans.Row.{Row}
use Rattle.plan_table.specs.declared.tracks.Mode.{Mode}
use Rattle.where_index.specs.Index.{with_route}
use Rattle.where_index.specs.Records.{records_apart}
use Rattle.scene_edits.specs.Formers.{as_row}
use Rattle.live_report.specs.Fleet as fleets
use Rattle.change_history.specs.Moved.{Tell}
use Rattle.live_report.specs.Books.{BooksState, fleet_in_mode}
use Rattle.live_report.proofs.Keeping.{keep_with}
use Rattle.live_report.proofs.Rows.{in_place}
use Rattle.live_report.proofs.books.Books.revise.Goals as goal

pub reprice-requires-clause-know : goal.reprice-requires-clause-know
reprice-requires-clause-know c = grind (arith, nat_tests, common_steps, gets)

pub with_line-lines-requires : goal.with_line-lines-requires
with_line-lines-requires c =
    let was = rw c.into_parts-fleet.ensures at c.requires.know.keep in
    let rows = c.requires.know.rows in
    let prices = c.in-Ok-reprice.ensures rows (rw c.grid.ensures.grid was.prices) c.requires.know.has in
    rw c.fields.ensures ((prices.goals c.args.row.now.goal).1 (c.args.agent, record { row = c.args.row.now; live = in_place rows c.args.agent (Some c.args.row.now); aims = refl }))

pub returns-clause-kept : goal.returns-clause-kept
returns-clause-kept c = λ rows keep has.
    let mode = c.args.scene.now.mode in
    let old : Row = as_row c.args.old.now in
    let was = rw c.into_parts-fleet.ensures at keep in
    let before : route_of c.track_of-was.result ≡ route_in mode old = c.track_of-was.ensures ∙ ap (λ (m : Mode). route_in m old) c.mode-mode.ensures in
    let route : route_of c.track.result ≡ route_in mode c.args.row.now = c.track.ensures ∙ ap (λ (m : Mode). route_in m c.args.row.now) c.mode-mode.ensures in
    let revised = c.in-Ok.ensures.books (fleet_in_mode mode rows) was.fleet (ap (option_map (route_in mode)) has ∙ ap Some (sym before)) in
    let fleet = subst (λ (r : Route). fleets.AreOfFleet (with_route (fleet_in_mode mode rows) c.args.agent (Some r)) c.in-Ok.fleet) route revised in
    let prices = rw c.grid.ensures.grid at (c.in-Ok-reprice.ensures rows (rw c.grid.ensures.grid was.prices) has) in
    let lines = c.with_line-lines.ensures c.args.scene.now.grid rows (rw c.fields.ensures prices.fields) was.lines in
    keep_with mode c.args.scene.now.grid rows c.args.agent (Some c.args.row.now) _ fleet prices lines

pub returns-clause-touched : goal.returns-clause-touched
returns-clause-touched c =
    let mode = c.args.scene.now.mode in
    let old : Row = as_row c.args.old.now in
    let before : route_of c.track_of-was.result ≡ route_in mode old = c.track_of-was.ensures ∙ ap (λ (m : Mode). route_in m old) c.mode-mode.ensures in
    let route : route_of c.track.result ≡ route_in mode c.args.row.now = c.track.ensures ∙ ap (λ (m : Mode). route_in m c.args.row.now) c.mode-mode.ensures in
    subst (λ (r : Route). c.in-Ok.fleet.index.touched ≡ min (c.args.self.fleet.index.touched + records_apart (route_in mode old) r) 18446744073709551615) route
    (subst (λ (r : Route). c.in-Ok.fleet.index.touched ≡ min (c.args.self.fleet.index.touched + records_apart r (route_of c.track.result)) 18446744073709551615) before
    (rw c.into_parts-fleet.ensures c.in-Ok.ensures.touched))

pub returns-clause-follows : goal.returns-clause-follows
returns-clause-follows c = λ first tell. c.in-Ok.ensures.follows first (subst (λ (b : BooksState). Tell first b.fleet.conflicts c.args.moves.now) c.into_parts-fleet.ensures tell)
