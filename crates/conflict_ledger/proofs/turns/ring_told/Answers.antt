use Rattle.std.proofs.Common.{◌∙◌, arith}
use Rattle.std.specs.Option.{option_map}
use Rattle.std.proofs.lemmas.Result.{IfOk-weaker}
use Rattle.plan_table.specs.Route.{route_of}
use Rattle.conflict_ledger.proofs.LeftRings.{left_before, told_found}
use Rattle.conflict_ledger.proofs.turns.ring_told.Goals as goal

pub returns-then-time-own_last-clause-only : goal.returns-then-time-own_last-clause-only
returns-then-time-own_last-clause-only c = IfOk-weaker c.ring_left_at.result _ _ (λ found gives fleet shows. told_found fleet (option_map route_of c.args.with.now.shown) found c.number-time.result c.args.turn c.args.entry.now c.args.with.now.agent (c.number-time.ensures ∙ c.time.ensures) (c.may_turn.ensures.0 c.if-not-may_turn.false) (gives fleet shows)) c.ring_left_at.ensures.only

pub returns-else-time-own_last-clause-has : goal.returns-else-time-own_last-clause-has
returns-else-time-own_last-clause-has c fleet other shows beside ring left at may =
    let early = left_before _ _ _ other beside c.own_last.result (c.own_last.ensures.is other beside) fleet ring left in
    absurd (omega (arith, at, c.number-time.ensures, c.time.ensures, early))
