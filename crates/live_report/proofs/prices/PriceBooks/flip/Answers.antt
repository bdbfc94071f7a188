use Rattle.std.proofs.Common.{sym, subst}
use Rattle.live_report.specs.Fleet as fleets
use Rattle.live_report.specs.Prices.{Rows}
use Rattle.live_report.specs.Books.{fleet_in_mode}
use Rattle.live_report.proofs.Fleets.{books_flipped}
use Rattle.live_report.proofs.prices.PriceBooks.flip.Goals as goal

pub returns-clause-kept : goal.returns-clause-kept
returns-clause-kept c = λ mode old rows keep size covers.
    let costs = c.in-Ok.ensures in
    let were = rw (← c.self.view_is) at keep.prices in
    let fleet = subst (λ (of : Rows). fleets.AreOfFleet (fleet_in_mode mode of) c.args.fleet.now) (λ i agent. sym (were.rows agent) i) keep.fleet in
    books_flipped old c.args.grid.now rows _ c.in-Ok.costs c.repair.new.self.aims c.repair.new.self.fields were costs.rows (costs.stands mode old fleet size covers were.costs) c.repair.ensures.aims c.repair.ensures.stand c.repair.ensures.held

pub repair-requires-clause-same_size : goal.repair-requires-clause-same_size
repair-requires-clause-same_size c = rw (← c.self.view_is) at c.requires.same_size

pub repair-requires-clause-covered : goal.repair-requires-clause-covered
repair-requires-clause-covered c = rw (← c.self.view_is) at c.requires.covered
