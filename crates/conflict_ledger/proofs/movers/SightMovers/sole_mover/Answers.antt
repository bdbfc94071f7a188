use Rattle.conflict_ledger.proofs.MoverIn.{tells_sole, tells_to, tells_found, in_sight}
use Rattle.conflict_ledger.specs.Sight.{IsMoverIn}
use Rattle.conflict_ledger.proofs.movers.SightMovers.sole_mover.Goals as goal

pub returns-clause-sole : goal.returns-clause-sole
returns-clause-sole c fleet shows = tells_sole (IsMoverIn c.movers.result.now c.args.self.now.agent c.own_move-own.result) fleet c.args.time c.args.cell
    (in_sight _ _ _ fleet c.args.time c.args.cell c.movers.result.now c.own_move-own.result shows (rw (← c.new.ensures) (c.movers.ensures shows.base shows.stands)) c.own_move-own.ensures) c.sole_of.result c.sole_of.ensures.one c.sole_of.ensures.only

pub returns-clause-to : goal.returns-clause-to
returns-clause-to c fleet shows = tells_to (IsMoverIn c.movers.result.now c.args.self.now.agent c.own_move-own.result) fleet c.args.time c.args.cell
    (in_sight _ _ _ fleet c.args.time c.args.cell c.movers.result.now c.own_move-own.result shows (rw (← c.new.ensures) (c.movers.ensures shows.base shows.stands)) c.own_move-own.ensures) c.sole_of.result c.sole_of.ensures.one

pub returns-clause-found : goal.returns-clause-found
returns-clause-found c fleet agent shows sole = tells_found (IsMoverIn c.movers.result.now c.args.self.now.agent c.own_move-own.result) fleet c.args.time c.args.cell
    (in_sight _ _ _ fleet c.args.time c.args.cell c.movers.result.now c.own_move-own.result shows (rw (← c.new.ensures) (c.movers.ensures shows.base shows.stands)) c.own_move-own.ensures) c.sole_of.result c.sole_of.ensures.found agent sole
