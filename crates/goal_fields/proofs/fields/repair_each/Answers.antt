use Rattle.std.specs.Prelude.{slice_index_or}
use Rattle.std.proofs.Common.{◌≡◌, ◌<◌, length, subst, ◌∙◌, arith, get_or-set_same, get_or-set_other, below_more}
use Rattle.std.proofs.Math.ListN.{set, length-set}
use Rattle.grid_cells.specs.Grid.{Chart}
use Rattle.goal_fields.specs.Rest.{IsRoomOn}
use Rattle.goal_fields.specs.Standings.{AreAtRest, AreRepaired}
use Rattle.goal_fields.proofs.ListLemmas.{AllZip-more, sum_by-more}
use Rattle.goal_fields.proofs.fields.repair_each.Goals as goal

pub repair_in-total-requires-clause-at_rest : goal.repair_in-total-requires-clause-at_rest
repair_in-total-requires-clause-at_rest c =
    let (old, size, covered, rest) = c.requires.at_rest in
    let same = c.loop-field.invariant.rest c.loop-field.field-index c.field-item.result (omega arith) (omega arith) in
    (old, rw c.loop-field.invariant.room.map size, rw c.loop-field.invariant.room.map covered, rw same (rest c.loop-field.field-index c.field-item.result (omega arith)))

pub loop-field-preserved : goal.loop-field-preserved
loop-field-preserved c =
    let i = c.loop-field.field-index in
    let fields = c.loop-field.fields in
    let new = c.repair_in-total.new.self in
    let within : i < length fields = omega arith in
    let within_old : i < length c.args.fields.now = omega arith in
    let same : slice_index_or fields i c.field-item.result ≡ slice_index_or c.args.fields.now i c.field-item.result = c.loop-field.invariant.rest i c.field-item.result (omega arith) within in
    let map = c.loop-field.invariant.room.map in
    record {
      each = λ old size rest. AllZip-more (AreRepaired old c.args.room.now.grid) c.args.fields.now fields i c.field-item.result new within_old within (c.loop-field.invariant.each old size rest)
          (rw (← same, ← map) (c.repair_in-total.ensures.repaired old (rw map size) (rw same (rest i c.field-item.result within_old))));
      at_rest = λ k d h. below_more (λ k. AreAtRest c.args.room.now.grid (slice_index_or (set fields i new) k d)) i
          (λ k lt. rw (get_or-set_other fields i k new d (λ e. absurd (omega arith))) (c.loop-field.invariant.at_rest k d lt))
          (rw (get_or-set_same fields i new d within, ← map) c.repair_in-total.ensures.at_rest) k h;
      rest = λ k d le h. get_or-set_other fields i k new d (λ e. absurd (omega arith)) ∙ c.loop-field.invariant.rest k d (omega arith) (rw length-set at h);
      counted = omega (arith, sum_by-more (λ field. field.taken) fields i new within, c.repair_in-total.ensures.counted);
      told = omega (arith, c.repair_in-total.ensures.told, c.loop-field.invariant.told);
      room = subst (λ (t : Chart). IsRoomOn t c.repair_in-total.new.room) map c.repair_in-total.ensures.room;
      small = omega (arith, c.repair_in-total.ensures.few);
    }
