use Rattle.std.specs.Prelude.{slice_index}
use Rattle.std.proofs.Common.{◌≡◌, ◌<◌, ◌≤◌, length, refl, sym, ap, Some, ◌∙◌, arith}
use Rattle.goal_fields.specs.Held.{Holding, StandFor, rank_of}
use Rattle.goal_fields.proofs.HeldLemmas.{IsGap, IsGap-from, HasGoal-gap, HasGoal-at, RiseByGoal-kept, IsKept-insert, IsKept-long, SameButGoal-insert}
use Rattle.goal_fields.proofs.ListLemmas.{All-insert, Contains-new}
use Rattle.goal_fields.proofs.RoomLemmas.{room_stands, HaveRoom-insert, standings-insert, standings-long}
use Rattle.goal_fields.specs.Standings.{standing_on, standings}
use Rattle.goal_fields.specs.Target.{IsSound}
use Rattle.goal_fields.proofs.fields.Fields.hold.Goals as goal

pub returns-in_default-clause-held : goal.returns-in_default-clause-held
returns-in_default-clause-held c =
    let within : c.in_default.field-0 < length c.self.inside.ranks.items = rw (← c.deref.ensures.value) c.in_default.ensures.within in
    let is : slice_index c.self.inside.ranks.items c.in_default.field-0 ≡ rank_of c.args.goal = rw (← c.deref.ensures.value) c.in_default.ensures.found ∙ c.rank-rank.ensures.is in
    rw (← c.self.view_is) (HasGoal-at c.self.inside.ranks.items (standings c.self.inside.room c.self.inside.fields.items) c.args.goal c.in_default.field-0 c.self.invariant.0 c.rank-rank.ensures.column within is)

pub returns-in_default-clause-one_each : goal.returns-in_default-clause-one_each
returns-in_default-clause-one_each c = rw (← c.self.view_is) (RiseByGoal-kept c.self.inside.ranks.items (standings c.self.inside.room c.self.inside.fields.items) c.self.invariant.0)

pub invariant_of-result : goal.invariant_of-result
invariant_of-result c =
    let grid = c.args.grid.now in
    let held = c.self.inside.fields.items in
    let old = c.self.inside.room in
    let now = c.in_ok-room.room in
    let one = c.in_ok-field.field in
    let at = c.in-Err.at in
    let stand : StandFor grid (standings old held) = rw (ap (λ (h : Holding). h.fields) c.self.view_is) c.requires.stands in
    let room : at ≤ length held = omega (arith, ap length c.deref.ensures.value, c.in-Err.ensures.room, IsKept-long c.self.inside.ranks.items (standings old held) c.self.invariant.0, standings-long old held) in
    let place : at ≤ length (standings old held) = omega (arith, room, standings-long old held) in
    let view = ap (standings (Some now)) c.in_ok-insert-2.ensures.items ∙ standings-insert grid held old c.self.invariant.1 stand one at room now c.in_ok-room.ensures.on in
    let is_rank : c.rank-rank.result ≡ rank_of one.goal = c.rank-rank.ensures.is ∙ ap rank_of (sym c.in_ok-field.ensures.goal) in
    let gap : IsGap c.self.inside.ranks.items (rank_of one.goal) at =
    IsGap-from c.self.inside.ranks.items c.deref.result.now c.rank-rank.result (rank_of one.goal) at c.deref.ensures.value is_rank c.in-Err.ensures.room c.in-Err.ensures.below c.in-Err.ensures.above in
    let sound : IsSound (standing_on grid one) = record { whole = c.in_ok-field.ensures.at_rest.whole; held = c.in_ok-field.ensures.at_rest.goal_held } in
    let kept = IsKept-insert c.self.inside.ranks.items (standings old held) (standing_on grid one) at c.self.invariant.0 gap sound (rw c.in_ok-field.ensures.goal c.rank-rank.ensures.column) (rw c.in_ok-field.ensures.goal c.rank-rank.ensures.row) in (
      rw (c.in_ok-insert.ensures.items, view, is_rank) kept,
      rw c.in_ok-insert-2.ensures.items (HaveRoom-insert grid held old c.self.invariant.1 stand one at room now c.in_ok-room.ensures.on c.in_ok-field.ensures.at_rest),
    )

pub made-requires : goal.made-requires
made-requires c = room_stands c.args.grid.now c.self.inside.fields.items c.self.inside.room c.self.invariant.1 (rw (ap (λ (h : Holding). h.fields) c.self.view_is) c.requires.stands)

pub returns : goal.returns
returns c =
    let grid = c.args.grid.now in
    let ranks = c.self.inside.ranks.items in
    let held = c.self.inside.fields.items in
    let old = c.self.inside.room in
    let one = c.in_ok-field.field in
    let at = c.in-Err.at in
    let fields = standings old held in
    let stand : StandFor grid fields = rw (ap (λ (h : Holding). h.fields) c.self.view_is) c.requires.stands in
    let room : at ≤ length held =
    omega (arith, ap length c.deref.ensures.value, c.in-Err.ensures.room, IsKept-long ranks fields c.self.invariant.0, standings-long old held) in
    let place : at ≤ length fields = omega (arith, room, standings-long old held) in
    let view = ap (standings (Some c.in_ok-room.room)) c.in_ok-insert-2.ensures.items
    ∙ standings-insert grid held old c.self.invariant.1 stand one at room c.in_ok-room.room c.in_ok-room.ensures.on in
    let gap : IsGap ranks (rank_of c.args.goal) at =
    IsGap-from ranks c.deref.result.now c.rank-rank.result (rank_of c.args.goal) at c.deref.ensures.value c.rank-rank.ensures.is c.in-Err.ensures.room
    c.in-Err.ensures.below c.in-Err.ensures.above in
    let sound : IsSound (standing_on grid one) = record { whole = c.in_ok-field.ensures.at_rest.whole; held = c.in_ok-field.ensures.at_rest.goal_held } in
    let kept = IsKept-insert ranks fields (standing_on grid one) at c.self.invariant.0 (rw c.in_ok-field.ensures.goal gap) sound
    (rw c.in_ok-field.ensures.goal c.rank-rank.ensures.column) (rw c.in_ok-field.ensures.goal c.rank-rank.ensures.row) in
    record {
      stands = rw view (All-insert (λ field. field.grid ≡ grid) fields (standing_on grid one) at place stand refl);
      held = (standing_on grid one, rw view (Contains-new fields at (standing_on grid one) place), c.in_ok-field.ensures.goal);
      others = rw (view, ← c.self.view_is, ← c.in_ok-field.ensures.goal) (SameButGoal-insert fields (standing_on grid one) at place);
      one_each = rw view (RiseByGoal-kept _ _ kept);
      told = rw (← c.self.view_is) c.in_ok-room.ensures.told;
      again = λ has. absurd (HasGoal-gap ranks fields c.args.goal at c.self.invariant.0 gap (rw (ap (λ (h : Holding). h.fields) c.self.view_is) has));
    }
