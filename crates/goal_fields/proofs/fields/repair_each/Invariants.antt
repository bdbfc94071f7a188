use Rattle.std.specs.Prelude.{All, sum_by, slice_index_or}
use Rattle.std.specs.List.{AllZip}
use Rattle.std.proofs.Common.{◌≡◌, ℕ, ◌*◌, ◌≤◌, ◌<◌, length, take}
use Rattle.grid_cells.specs.Grid.{Chart}
use Rattle.goal_fields.specs.declared.distances.Distances.{Distances}
use Rattle.goal_fields.specs.Target.{HaveCounted}
use Rattle.goal_fields.specs.Rest.{IsRoomOn}
use Rattle.goal_fields.specs.Standings.{AreAtRest, AreRepaired}
use Rattle.goal_fields.proofs.fields.repair_each.Given as goal

abbrev pub invariant-loop-field : goal.invariant-loop-field
invariant-loop-field l = record {
  each : (old : Chart) → old.size ≡ l.fn.room.grid.size → All (AreAtRest old) l.fn.fields → AllZip (AreRepaired old l.fn.room.grid) (take l.field-index l.fn.fields) (take l.field-index l.fields);
  at_rest : (k : ℕ) (d : Distances) → k < l.field-index → AreAtRest l.fn.room.grid (slice_index_or l.fields k d);
  rest : (k : ℕ) (d : Distances) → l.field-index ≤ k → k < length l.fields → slice_index_or l.fields k d ≡ slice_index_or l.fn.fields k d;
  counted : l.total ≡ sum_by (λ field. field.taken) (take l.field-index l.fields);
  told : HaveCounted l.total l.fn.room.queue.total l.room.queue.total;
  room : IsRoomOn l.fn.room.grid l.room;
  small : l.total ≤ l.field-index * 2097152;
}
