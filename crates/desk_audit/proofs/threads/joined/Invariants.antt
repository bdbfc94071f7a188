use Rattle.std.proofs.Common.{◌≡◌, ℕ, map, false}
use Rattle.std.specs.Vec.Iter.{into_iter_items}
use Rattle.desk_audit.specs.Parts.{IsPart}
use Rattle.desk_audit.specs.Pieces.{Tiles}
use Rattle.desk_audit.proofs.threads.joined.Given as goal

abbrev pub invariant-joins : goal.invariant-joins
invariant-joins g l = record {
  can : (goal.iterator-joins g).can_next l.child-iterator;
  finite : (goal.iterator-joins g).is_finite l.child-iterator;
  all : l.lost ≡ false → l.fn.lost ≡ false;
  so_far : l.lost ≡ false → (end : ℕ) → Tiles l.scene 0 (map (λ h. h.promise) l.fn.children.items) end → (at : ℕ) × Tiles l.scene at (map (λ h. h.promise) (into_iter_items l.child-iterator)) end × IsPart l.scene.grid l.scene.mode l.scene.rows 0 at l.whole;
}
