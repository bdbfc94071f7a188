use Rattle.conflict_ledger.proofs.Gathers.{gathers_on}
use Rattle.conflict_ledger.proofs.Occupied.{stands_show, tails_show, stop_has}
use Rattle.conflict_ledger.proofs.gather.gather_stop.Goals as goal

pub returns-clause-gathers : goal.returns-clause-gathers
returns-clause-gathers c fleet shows is =
    let found = rw c.new.ensures at (c.occupants-found.ensures shows.base shows.stands) in
    gathers_on fleet _ _ _ _ _ (c.in_ok-offer_spots.ensures.gathers fleet shows is (stands_show _ _ _ fleet shows _ _ _ found.standing))
    (c.in_ok-offer_spots-2.ensures.gathers fleet shows is (tails_show _ _ _ fleet shows _ _ found.resting))

pub returns-clause-has : goal.returns-clause-has
returns-clause-has c fleet shows is =
    let found = rw c.new.ensures at (c.occupants-found.ensures shows.base shows.stands) in
    let rested = tails_show _ _ _ fleet shows _ _ found.resting in
    stop_has _ _ _ fleet shows c.args.stop.now c.occupants-found.result.stands c.occupants-found.result.tails c.offer_spots.new.entries.items c.offer_spots-2.new.entries.items c.requires.0
    (c.in_ok-offer_spots.ensures.has fleet shows is (stands_show _ _ _ fleet shows _ _ _ found.standing) found.stands_rise) (c.in_ok-offer_spots-2.ensures.gathers fleet shows is rested).keeps (c.in_ok-offer_spots-2.ensures.has fleet shows is rested found.tails_rise) found.all
