use Rattle.std.proofs.Common.{◌≡◌, ◌≤◌, length, map, false}
use Rattle.desk_audit.specs.Parts.{edge}
use Rattle.desk_audit.specs.Pieces.{Tiles}
use Rattle.desk_audit.proofs.threads.in_scope.Given as goal

abbrev pub invariant-pieces : goal.invariant-pieces
invariant-pieces g l = record {
  from_is : l.from ≡ edge (length l.scene.rows) l.workers l.piece;
  within : l.from ≤ length l.scene.rows;
  whole : l.lost ≡ false;
  tiles : Tiles l.scene 0 (map (λ h. h.promise) l.children.items) l.from;
}
