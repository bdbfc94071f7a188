use Rattle.std.proofs.Common.{◌≡◌, ◌+◌, min, Some, None, refl, ap, sym, subst, ◌∙◌}
use Rattle.std.specs.Option.{option_map}
use Rattle.plan_table.specs.Route.{Route, route_of, route_in}
use Rattle.plan_table.specs.declared.plans.Row.{Row}
use Rattle.plan_table.specs.declared.tracks.Mode.{Mode}
use Rattle.where_index.specs.Records.{nothing, records_apart}
use Rattle.change_history.specs.Moved.{Tell}
use Rattle.live_report.specs.Books.{BooksState, fleet_in_mode}
use Rattle.live_report.proofs.Keeping.{keep_with}
use Rattle.live_report.proofs.books.Books.leave.Goals as goal

pub returns-clause-kept : goal.returns-clause-kept
returns-clause-kept c = λ rows keep has.
    let mode = c.args.scene.now.mode in
    let old : Row = record { goal = c.args.goal; plan = c.args.plan.now } in
    let was = rw c.into_parts-fleet.ensures at keep in
    let route : route_of c.track_of.result ≡ route_in mode old = c.track_of.ensures ∙ ap (λ (m : Mode). route_in m old) c.mode.ensures in
    let fleet = c.in-Ok.ensures.books (fleet_in_mode mode rows) was.fleet (ap (option_map (route_in mode)) has ∙ ap Some (sym route)) in
    let prices = c.take.ensures.kept c.args.scene.now.grid rows was.prices (record { row = old; live = has; aims = refl }) in
    keep_with mode c.args.scene.now.grid rows c.args.agent None _ fleet prices (c.without_line-lines.ensures c.args.scene.now.grid rows was.lines)

pub returns-clause-touched : goal.returns-clause-touched
returns-clause-touched c =
    let old : Row = record { goal = c.args.goal; plan = c.args.plan.now } in
    let route : route_of c.track_of.result ≡ route_in c.args.scene.now.mode old = c.track_of.ensures ∙ ap (λ (m : Mode). route_in m old) c.mode.ensures in
    subst (λ (r : Route). c.in-Ok.fleet.index.touched ≡ min (c.args.self.fleet.index.touched + records_apart r nothing) 18446744073709551615) route (rw c.into_parts-fleet.ensures c.in-Ok.ensures.touched)

pub returns-clause-follows : goal.returns-clause-follows
returns-clause-follows c = λ first tell. c.in-Ok.ensures.follows first (subst (λ (b : BooksState). Tell first b.fleet.conflicts c.args.moves.now) c.into_parts-fleet.ensures tell)
