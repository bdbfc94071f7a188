use Rattle.std.proofs.Common.{rules, ◌≡◌, ap, ◌∙◌, subst}
use Rattle.desk_shared.specs.Passes.{PassState}
use Rattle.desk_shared.specs.Calls.{IsSplit}
use Rattle.desk_shared.specs.Turns.{shown, giver, given}
use Rattle.desk_shared.proofs.Views.{asides, splits}
use Rattle.desk_shared.proofs.Told.{splitted, least_of}
use Rattle.desk_shared.proofs.sharing.SharedDesk.split.Goals as goal

pub load-requires : goal.load-requires
load-requires c = (search rules, search rules, asides _ _ _ _ c.pass.invariant.2)

pub split_seat-place-requires : goal.split_seat-place-requires
split_seat-place-requires c = let some = c.in-Some.ensures.some in let least = least_of c.pass.inside.place.me.0 c.pass.inside.unused c.in-Some.planner c.pass.invariant.4 some.1 some.2 some.3 in
    let same = c.load.ensures.2.1 in (search rules, search rules, rw same (splits _ _ c.pass.invariant.2 least.kept))

pub returns-clause-split : goal.returns-clause-split
returns-clause-split c = let k = c.pass.inside.place.me.0 in let some = c.in-Some.ensures.some in let least = least_of k c.pass.inside.unused c.in-Some.planner c.pass.invariant.4 some.1 some.2 some.3 in
    let same = c.load.ensures.2.1 in
    let left : c.split_seat-place.new.seat.me.0 ≡ giver k = ap (λ m. m.0) c.split_seat-place.ensures.2 ∙ ap (λ m. giver m.0) same in
    let right : c.split_seat-place.result.me.0 ≡ given k = ap (λ m. m.0) c.split_seat-place.ensures.4 ∙ ap (λ m. given m.0) same in
    subst (λ (z : PassState). IsSplit z (shown c.split_seat-place.new.seat.me.0) (shown c.split_seat-place.result.me.0)) (ap (λ h. h.known) c.pass.view_is) (splitted k _ _ left right c.load.ensures.2.0 least)
