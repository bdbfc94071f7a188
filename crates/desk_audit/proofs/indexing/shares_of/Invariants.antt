use Rattle.std.proofs.Common.{◌≡◌, ℕ, map, length, false}
use Rattle.std.specs.Vec.Iter.{into_iter_items}
use Rattle.plan_table.specs.Route.{tracks_of}
use Rattle.desk_audit.specs.Index.{AreShares}
use Rattle.desk_audit.specs.Pieces.{Counts}
use Rattle.desk_audit.proofs.indexing.shares_of.Given as goal

abbrev pub invariant-joins : goal.invariant-joins
invariant-joins g l = record {
  can : (goal.iterator-joins g).can_next l.child-iterator;
  finite : (goal.iterator-joins g).is_finite l.child-iterator;
  all : l.lost ≡ false → l.fn.lost ≡ false;
  so_far : l.lost ≡ false → (end : ℕ) → Counts l.scene l.many 0 (map (λ h. h.promise) l.fn.children.items) end
      → Counts l.scene l.many (length l.index.items) (map (λ h. h.promise) (into_iter_items l.child-iterator)) end × AreShares (tracks_of l.scene.mode l.scene.rows) l.many l.index.items;
}
