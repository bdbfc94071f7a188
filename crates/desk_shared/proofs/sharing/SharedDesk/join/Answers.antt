use Rattle.std.proofs.Common.{rules, sym, ap, ◌∙◌, subst}
use Rattle.desk_shared.specs.Passes.{PassState}
use Rattle.desk_shared.specs.Calls.{either_of, IsJoinOf}
use Rattle.desk_shared.specs.Turns.{shown, IsBusy}
use Rattle.desk_shared.proofs.Views.{compares, joins}
use Rattle.desk_shared.proofs.Told.{joined_so}
use Rattle.desk_shared.proofs.sharing.SharedDesk.join.Goals as goal

pub join_seat-requires : goal.join_seat-requires
join_seat-requires c = (search rules, search rules, c.other.invariant.0, search rules, joins _ _ _ _ c.pass.invariant.2 c.other.invariant.2 c.pass.invariant.1 c.other.invariant.1)

pub load-requires : goal.load-requires
load-requires c = (search rules, search rules, compares _ _ _ _ (ap (λ m. m.0.live) c.join_seat.ensures.2 ∙ c.pass.invariant.2) (λ b. subst IsBusy (ap (λ m. m.0.stage) c.join_seat.ensures.2) b))

pub invariant_of-pass : goal.invariant_of-pass
invariant_of-pass c = let now = c.join_seat.ensures.2 in let told = c.load.ensures.2 _ _ _ _ _ (ap (λ m. m.0.stage) now) in let to = told.4 in (
  ap (λ m. m.1) to ∙ (ap (λ m. m.1) now ∙ c.pass.invariant.0),
  ap (λ m. m.0.stage) to,
  ap (λ m. m.0.live) to ∙ (ap (λ m. m.0.live) now ∙ c.pass.invariant.2),
  ap (λ m. m.0.planner) to ∙ (ap (λ m. m.0.planner) now ∙ c.pass.invariant.3),
  ap (λ m. m.0.unused) to ∙ (ap (λ m. m.0.unused) now ∙ ((λ i. either_of (c.pass.invariant.4 i) (c.other.invariant.4 i)) ∙ sym c.merge.ensures)),
)

pub returns-clause-joined : goal.returns-clause-joined
returns-clause-joined c = let now = c.join_seat.ensures.2 in let told = c.load.ensures.2 _ _ _ _ _ (ap (λ m. m.0.stage) now) in
    subst (λ (z : PassState × PassState). IsJoinOf z.0 z.1 (shown c.load.new.seat.me.0)) (λ i. ((c.pass.view_is i).known, (c.other.view_is i).known))
    (joined_so c.pass.inside.place.me.0 c.other.inside.place.me.0 c.join_seat.new.seat.me.0 c.load.new.seat.me.0 (ap (λ m. m.0) now) (told.0, told.1, told.2, told.3, ap (λ m. m.0) told.4))
