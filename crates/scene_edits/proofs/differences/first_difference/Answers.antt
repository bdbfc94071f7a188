use Rattle.std.proofs.Common.{◌∙◌, sym, arith}
use Rattle.plan_table.specs.Route.{route_of}
use Rattle.plan_table.proofs.Fleets.{position_on_path}
use Rattle.plan_table.proofs.Fronts.{same_places}
use Rattle.scene_edits.proofs.Settled.{same-for_ever}
use Rattle.scene_edits.proofs.differences.first_difference.Goals as goal

pub returns : goal.returns
returns c = same-for_ever (route_of c.args.before) (route_of c.args.after) c.loop-time.time (omega arith) (omega arith) c.loop-time.invariant

pub loop-time-init : goal.loop-time-init
loop-time-init c = λ time early.
    let front = c.same_front-time.ensures in
    position_on_path (route_of c.args.before) time (omega (arith, front.one_within))
    ∙ same_places _ _ _ front time early
    ∙ sym (position_on_path (route_of c.args.after) time (omega (arith, front.other_within)))
