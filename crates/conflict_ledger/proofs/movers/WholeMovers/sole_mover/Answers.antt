use Rattle.std.proofs.Common.{Contains, sym}
use Rattle.conflict_ledger.proofs.MoverIn.{tells_sole, tells_to, tells_found, in_whole, none_whole, none_if, some_if}
use Rattle.conflict_ledger.specs.Sight.{IsMoverIn}
use Rattle.std.specs.Prelude.{Some}
use Rattle.conflict_ledger.proofs.movers.WholeMovers.sole_mover.Goals as goal

pub returns-then-is_empty-clause-found : goal.returns-then-is_empty-clause-found
returns-then-is_empty-clause-found c fleet agent stands sole = absurd (none_whole fleet c.args.time c.args.cell agent c.movers-moves.result.now (none_if _ _ c.is_empty.ensures c.if-is_empty.true) (rw (← c.new.ensures) (c.movers-moves.ensures fleet stands)) sole)

pub returns-clause-sole : goal.returns-clause-sole
returns-clause-sole c fleet stands =
    let has : Contains c.movers-moves.result.now c.index-moves-0.result = (0, some_if _ _ c.is_empty.ensures c.if-is_empty.false, sym c.index-moves-0.is) in
    tells_sole (IsMoverIn c.movers-moves.result.now c.index-moves-0.result.agent (Some c.index-moves-0.result.to)) fleet c.args.time c.args.cell
    (in_whole fleet c.args.time c.args.cell c.movers-moves.result.now c.index-moves-0.result has (rw (← c.new.ensures) (c.movers-moves.ensures fleet stands))) c.sole_of.result c.sole_of.ensures.one c.sole_of.ensures.only

pub returns-clause-to : goal.returns-clause-to
returns-clause-to c fleet stands =
    let has : Contains c.movers-moves.result.now c.index-moves-0.result = (0, some_if _ _ c.is_empty.ensures c.if-is_empty.false, sym c.index-moves-0.is) in
    tells_to (IsMoverIn c.movers-moves.result.now c.index-moves-0.result.agent (Some c.index-moves-0.result.to)) fleet c.args.time c.args.cell
    (in_whole fleet c.args.time c.args.cell c.movers-moves.result.now c.index-moves-0.result has (rw (← c.new.ensures) (c.movers-moves.ensures fleet stands))) c.sole_of.result c.sole_of.ensures.one

pub returns-clause-found : goal.returns-clause-found
returns-clause-found c fleet agent stands sole =
    let has : Contains c.movers-moves.result.now c.index-moves-0.result = (0, some_if _ _ c.is_empty.ensures c.if-is_empty.false, sym c.index-moves-0.is) in
    tells_found (IsMoverIn c.movers-moves.result.now c.index-moves-0.result.agent (Some c.index-moves-0.result.to)) fleet c.args.time c.args.cell
    (in_whole fleet c.args.time c.args.cell c.movers-moves.result.now c.index-moves-0.result has (rw (← c.new.ensures) (c.movers-moves.ensures fleet stands))) c.sole_of.result c.sole_of.ensures.found agent sole
