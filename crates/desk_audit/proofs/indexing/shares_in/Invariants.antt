use Rattle.std.proofs.Common.{◌≡◌, map, false}
use Rattle.desk_audit.specs.Pieces.{Counts}
use Rattle.desk_audit.proofs.indexing.shares_in.Given as goal

abbrev pub invariant-shares : goal.invariant-shares
invariant-shares g l = record {
  whole : l.lost ≡ false;
  counts : Counts l.scene l.many 0 (map (λ h. h.promise) l.children.items) l.number;
}
