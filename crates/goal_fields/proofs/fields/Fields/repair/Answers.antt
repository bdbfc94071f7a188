use Rattle.std.proofs.Common.{◌≡◌, ◌++◌, ℕ, List, length, take, drop, sym, ap, ◌∙◌, Some, arith}
use Rattle.std.proofs.lemmas.Grind.{common_steps}
use Rattle.goal_fields.specs.declared.distances.Distances.{Distances}
use Rattle.goal_fields.specs.Rest.{total_in}
use Rattle.goal_fields.specs.Standings.{standings}
use Rattle.goal_fields.specs.Held.{Holding}
use Rattle.goal_fields.proofs.HeldLemmas.{IsKept-few, IsKept-repaired}
use Rattle.goal_fields.proofs.RoomLemmas.{AreAtRest-lent, room_size, room_covered, IsRoomOn-adopt, HaveRoom-repaired, standings-long, standings-repaired}
use Rattle.goal_fields.proofs.fields.Fields.repair.Goals as goal

-- what was put into a list in place of as many is what the list has
put_back : (len : ℕ) (new items : List Distances) → length new ≡ len → take len (new ++ drop (length new) items) ≡ new
put_back len new items long = grind (arith, common_steps)

pub adopt-requires-clause-same_size : goal.adopt-requires-clause-same_size
adopt-requires-clause-same_size c = room_size c.self.inside.fields.items c.self.inside.room c.in-Some.room (sym c.take.ensures.value ∙ c.in-Some.is) c.self.invariant.1 c.args.grid.now (rw (ap (λ (h : Holding). h.fields) c.self.view_is) c.requires.same_size)

pub adopt-requires-clause-covered : goal.adopt-requires-clause-covered
adopt-requires-clause-covered c = room_covered c.self.inside.fields.items c.self.inside.room c.in-Some.room (sym c.take.ensures.value ∙ c.in-Some.is) c.self.invariant.1 c.args.grid.now c.args.changed.now (rw (ap (λ (h : Holding). h.fields) c.self.view_is) c.requires.covered)

pub repair_each-total-requires-clause-few : goal.repair_each-total-requires-clause-few
repair_each-total-requires-clause-few c = (let few = IsKept-few c.self.inside.ranks.items (standings c.self.inside.room c.self.inside.fields.items) c.self.invariant.0 in rw c.deref_mut.ensures.value (omega (arith, few, standings-long c.self.inside.room c.self.inside.fields.items)))

pub repair_each-total-requires-clause-room : goal.repair_each-total-requires-clause-room
repair_each-total-requires-clause-room c =
    IsRoomOn-adopt c.self.inside.fields.items c.self.inside.room c.in-Some.room (sym c.take.ensures.value ∙ c.in-Some.is) c.self.invariant.1 c.adopt.new.map (rw c.adopt.ensures.is (room_size c.self.inside.fields.items c.self.inside.room c.in-Some.room (sym c.take.ensures.value ∙ c.in-Some.is) c.self.invariant.1 c.args.grid.now (rw (ap (λ (h : Holding). h.fields) c.self.view_is) c.requires.same_size))) c.adopt.ensures.whole

pub repair_each-total-requires-clause-at_rest : goal.repair_each-total-requires-clause-at_rest
repair_each-total-requires-clause-at_rest c = (
  c.in-Some.room.grid,
  rw c.adopt.ensures.is (sym (room_size c.self.inside.fields.items c.self.inside.room c.in-Some.room (sym c.take.ensures.value ∙ c.in-Some.is) c.self.invariant.1 c.args.grid.now (rw (ap (λ (h : Holding). h.fields) c.self.view_is) c.requires.same_size))),
  rw c.adopt.ensures.is (room_covered c.self.inside.fields.items c.self.inside.room c.in-Some.room (sym c.take.ensures.value ∙ c.in-Some.is) c.self.invariant.1 c.args.grid.now c.args.changed.now (rw (ap (λ (h : Holding). h.fields) c.self.view_is) c.requires.covered)),
  rw c.deref_mut.ensures.value (AreAtRest-lent c.self.inside.fields.items c.self.inside.room c.in-Some.room (sym c.take.ensures.value ∙ c.in-Some.is) c.self.invariant.1 c.args.grid.now),
)

pub invariant_of-self-2 : goal.invariant_of-self-2
invariant_of-self-2 c =
    let size = room_size c.self.inside.fields.items c.self.inside.room c.in-Some.room (sym c.take.ensures.value ∙ c.in-Some.is) c.self.invariant.1 c.args.grid.now (rw (ap (λ (h : Holding). h.fields) c.self.view_is) c.requires.same_size) in
    let each = rw c.deref_mut.ensures.value at (c.repair_each-total.ensures.each c.in-Some.room.grid (rw c.adopt.ensures.is (sym size)) (rw c.deref_mut.ensures.value (AreAtRest-lent c.self.inside.fields.items c.self.inside.room c.in-Some.room (sym c.take.ensures.value ∙ c.in-Some.is) c.self.invariant.1 c.args.grid.now))) in
    let repaired = standings-repaired c.self.inside.fields.items c.self.inside.room c.in-Some.room (sym c.take.ensures.value ∙ c.in-Some.is) c.self.invariant.1 c.adopt.new.map c.repair_each-total.new.fields c.repair_each-total.new.room each c.repair_each-total.ensures.room in
    rw (put_back c.self.inside.fields.len c.repair_each-total.new.fields c.self.inside.fields.items (omega (arith, c.deref_mut.ensures.len, c.repair_each-total.auto.fields)), c.give_back.ensures) (
      IsKept-repaired c.self.inside.ranks.items (standings c.self.inside.room c.self.inside.fields.items) (standings (Some c.repair_each-total.new.room) c.repair_each-total.new.fields) c.adopt.new.map c.self.invariant.0 repaired,
      HaveRoom-repaired c.self.inside.fields.items c.self.inside.room c.in-Some.room (sym c.take.ensures.value ∙ c.in-Some.is) c.self.invariant.1 c.adopt.new.map c.repair_each-total.new.fields c.repair_each-total.new.room each c.repair_each-total.ensures.at_rest c.repair_each-total.ensures.room,
    )

pub returns-clause-each : goal.returns-clause-each
returns-clause-each c =
    let size = room_size c.self.inside.fields.items c.self.inside.room c.in-Some.room (sym c.take.ensures.value ∙ c.in-Some.is) c.self.invariant.1 c.args.grid.now (rw (ap (λ (h : Holding). h.fields) c.self.view_is) c.requires.same_size) in
    let each = rw c.deref_mut.ensures.value at (c.repair_each-total.ensures.each c.in-Some.room.grid (rw c.adopt.ensures.is (sym size)) (rw c.deref_mut.ensures.value (AreAtRest-lent c.self.inside.fields.items c.self.inside.room c.in-Some.room (sym c.take.ensures.value ∙ c.in-Some.is) c.self.invariant.1 c.args.grid.now))) in
    let repaired = standings-repaired c.self.inside.fields.items c.self.inside.room c.in-Some.room (sym c.take.ensures.value ∙ c.in-Some.is) c.self.invariant.1 c.adopt.new.map c.repair_each-total.new.fields c.repair_each-total.new.room each c.repair_each-total.ensures.room in
    rw (← c.self.view_is, put_back c.self.inside.fields.len c.repair_each-total.new.fields c.self.inside.fields.items (omega (arith, c.deref_mut.ensures.len, c.repair_each-total.auto.fields)), c.give_back.ensures, ← c.adopt.ensures.is) repaired

pub returns-clause-told : goal.returns-clause-told
returns-clause-told c =
    let was : total_in c.self.inside.room ≡ c.in-Some.room.queue.total = ap total_in (sym c.take.ensures.value ∙ c.in-Some.is) in
    rw (← c.self.view_is, c.give_back.ensures, was) c.repair_each-total.ensures.told
