use Rattle.std.specs.Prelude.{slice_index}
use Rattle.std.proofs.Common.{◌≡◌, ◌<◌, length, ap, ◌∙◌, arith}
use Rattle.goal_fields.specs.Held.{rank_of}
use Rattle.goal_fields.specs.Rest.{total_in}
use Rattle.goal_fields.proofs.HeldLemmas.{IsGap, IsGap-from, HasGoal-gap, RiseByGoal-kept, IsKept-remove, HasGoal-remove, SameButGoal-remove, goal_at, IsKept-long, HasGoal-at}
use Rattle.goal_fields.specs.Standings.{standings}
use Rattle.goal_fields.proofs.RoomLemmas.{HaveRoom-remove, standings-remove, standings-long}
use Rattle.goal_fields.proofs.fields.Fields.release.Goals as goal

pub invariant_of-self : goal.invariant_of-self
invariant_of-self c =
    let within : c.in-Ok.at < length c.self.inside.ranks.items = rw (← c.deref.ensures.value) c.in-Ok.ensures.within in
    let within_fields : c.in-Ok.at < length c.self.inside.fields.items = omega (arith, within, IsKept-long c.self.inside.ranks.items (standings c.self.inside.room c.self.inside.fields.items) c.self.invariant.0, standings-long c.self.inside.room c.self.inside.fields.items) in
    let left = c.deref-in-Ok.ensures.value in
    let none = rw (left, c.remove-in-Ok.ensures.items) at c.let_go.ensures.none in
    let some = rw (left, c.remove-in-Ok.ensures.items) at c.let_go.ensures.some in
    let view = ap (standings c.let_go.new.room) c.remove-in-Ok.ensures.items ∙ standings-remove c.self.inside.fields.items c.in-Ok.at c.self.inside.room c.let_go.new.room within_fields none some c.self.invariant.1 in (
      rw (c.remove.ensures.items, view) (IsKept-remove c.self.inside.ranks.items (standings c.self.inside.room c.self.inside.fields.items) c.in-Ok.at c.self.invariant.0 within),
      rw c.remove-in-Ok.ensures.items (HaveRoom-remove c.self.inside.fields.items c.in-Ok.at c.self.inside.room c.let_go.new.room within_fields none some c.self.invariant.1),
    )

pub returns-in-Ok : goal.returns-in-Ok
returns-in-Ok c =
    let ranks = c.self.inside.ranks.items in
    let held = c.self.inside.fields.items in
    let fields = standings c.self.inside.room held in
    let within : c.in-Ok.at < length ranks = rw (← c.deref.ensures.value) c.in-Ok.ensures.within in
    let is : slice_index ranks c.in-Ok.at ≡ rank_of c.args.goal = rw (← c.deref.ensures.value) c.in-Ok.ensures.found ∙ c.rank.ensures.is in
    let within_fields : c.in-Ok.at < length held = omega (arith, within, IsKept-long ranks fields c.self.invariant.0, standings-long c.self.inside.room held) in
    let left = c.deref-in-Ok.ensures.value in
    let none = rw (left, c.remove-in-Ok.ensures.items) at c.let_go.ensures.none in
    let some = rw (left, c.remove-in-Ok.ensures.items) at c.let_go.ensures.some in
    let view = ap (standings c.let_go.new.room) c.remove-in-Ok.ensures.items
    ∙ standings-remove held c.in-Ok.at c.self.inside.room c.let_go.new.room within_fields none some c.self.invariant.1 in
    record {
      gone = rw view (HasGoal-remove ranks fields c.args.goal c.in-Ok.at c.self.invariant.0 within is);
      others = rw (view, ← c.self.view_is) (SameButGoal-remove fields c.args.goal c.in-Ok.at (omega (arith, within_fields, standings-long c.self.inside.room held))
          (λ d. goal_at ranks fields c.args.goal c.self.invariant.0 c.rank.ensures.column c.in-Ok.at d within is));
      one_each = rw view (RiseByGoal-kept _ _ (IsKept-remove ranks fields c.in-Ok.at c.self.invariant.0 within));
      told = λ more.
          let kept : 0 < length c.remove-in-Ok.new.self.items = omega (arith, more, standings-long c.let_go.new.room c.remove-in-Ok.new.self.items) in
          rw (← c.self.view_is) (ap total_in (rw c.deref-in-Ok.ensures.value at c.let_go.ensures.some kept));
      unheld = λ unheld. absurd ((rw (← c.self.view_is) at unheld) (HasGoal-at ranks fields c.args.goal c.in-Ok.at c.self.invariant.0 c.rank.ensures.column
          within is));
    }

pub returns-in_default-clause-gone : goal.returns-in_default-clause-gone
returns-in_default-clause-gone c =
    let gap : IsGap c.self.inside.ranks.items (rank_of c.args.goal) c.in_default.field-0 =
    IsGap-from c.self.inside.ranks.items c.deref.result.now c.rank.result (rank_of c.args.goal) c.in_default.field-0 c.deref.ensures.value c.rank.ensures.is c.in_default.ensures.room c.in_default.ensures.below c.in_default.ensures.above in
    rw (← c.self.view_is) (HasGoal-gap c.self.inside.ranks.items (standings c.self.inside.room c.self.inside.fields.items) c.args.goal c.in_default.field-0 c.self.invariant.0 gap)

pub returns-in_default-clause-one_each : goal.returns-in_default-clause-one_each
returns-in_default-clause-one_each c = rw (← c.self.view_is) (RiseByGoal-kept c.self.inside.ranks.items (standings c.self.inside.room c.self.inside.fields.items) c.self.invariant.0)
