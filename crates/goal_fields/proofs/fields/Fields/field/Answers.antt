use Rattle.std.specs.Prelude.{Option, Some, slice_index, slice_index_or}
use Rattle.std.proofs.Common.{◌≡◌, ◌<◌, ◌∙◌, length, sym, ap, subst, arith}
use Rattle.goal_fields.specs.Target.{Standing}
use Rattle.goal_fields.specs.declared.lifelong.Lifelong.{Lifelong}
use Rattle.goal_fields.specs.Held.{rank_of}
use Rattle.goal_fields.specs.Standings.{standing_on, standings}
use Rattle.goal_fields.proofs.HeldLemmas.{IsGap, IsGap-from, IsKept-long, HasGoal-gap, RiseByGoal-kept, goal_at}
use Rattle.goal_fields.proofs.RoomLemmas.{standings-at, standings-long}
use Rattle.goal_fields.proofs.fields.Fields.field.Goals as goal

pub returns-in-Ok-clause-found : goal.returns-in-Ok-clause-found
returns-in-Ok-clause-found c =
    let room = c.in-Some.room in
    let held = c.self.inside.fields.items in
    let one = c.index.result.now in
    let at = c.in-Ok.at in
    let fields = standings c.self.inside.room held in
    let within : at < length c.self.inside.ranks.items = rw (← c.deref.ensures.value) c.in-Ok.ensures.within in
    let is : slice_index c.self.inside.ranks.items at ≡ rank_of c.args.goal = rw (← c.deref.ensures.value) c.in-Ok.ensures.found ∙ c.rank.ensures.is in
    let place : at < length held = omega (arith, within, IsKept-long c.self.inside.ranks.items fields c.self.invariant.0, standings-long c.self.inside.room held) in
    let there : slice_index_or fields at (standing_on room.grid one) ≡ standing_on room.grid one =
    subst (λ (r : Option Lifelong). slice_index_or (standings r held) at (standing_on room.grid one) ≡ standing_on room.grid one) (sym c.in-Some.is) (standings-at (Some room) held at one place c.index.ensures) in
    let goal : one.goal ≡ c.args.goal = ap (λ (f : Standing). f.goal) (sym there) ∙ goal_at c.self.inside.ranks.items fields c.args.goal c.self.invariant.0 c.rank.ensures.column at (standing_on room.grid one) within is in
    rw (← c.self.view_is) ((at, omega (arith, place, standings-long c.self.inside.room held), there), goal)

pub returns-in-Ok-clause-one_each : goal.returns-in-Ok-clause-one_each
returns-in-Ok-clause-one_each c = rw (← c.self.view_is) (RiseByGoal-kept c.self.inside.ranks.items (standings c.self.inside.room c.self.inside.fields.items) c.self.invariant.0)

pub returns-in-Err-clause-none : goal.returns-in-Err-clause-none
returns-in-Err-clause-none c =
    let gap : IsGap c.self.inside.ranks.items (rank_of c.args.goal) c.in-Err.field-0 =
    IsGap-from c.self.inside.ranks.items c.deref.result.now c.rank.result (rank_of c.args.goal) c.in-Err.field-0 c.deref.ensures.value c.rank.ensures.is c.in-Err.ensures.room c.in-Err.ensures.below c.in-Err.ensures.above in
    rw (← c.self.view_is) (HasGoal-gap c.self.inside.ranks.items (standings c.self.inside.room c.self.inside.fields.items) c.args.goal c.in-Err.field-0 c.self.invariant.0 gap)

pub returns-in-Err-clause-one_each : goal.returns-in-Err-clause-one_each
returns-in-Err-clause-one_each c = rw (← c.self.view_is) (RiseByGoal-kept c.self.inside.ranks.items (standings c.self.inside.room c.self.inside.fields.items) c.self.invariant.0)
