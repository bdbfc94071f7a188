use Rattle.std.proofs.Common.{arith, ◌≡◌, ◌≤◌, ◌+◌, ℕ, List, length, map, ap, ◌∙◌, subst}
use Rattle.std.proofs.lemmas.List.{map-append}
use Rattle.std.proofs.lemmas.Option.{IfSome_then}
use Rattle.plan_table.specs.declared.plans.Row.{Row}
use Rattle.desk_audit.specs.Parts.{edge}
use Rattle.desk_audit.specs.Pieces.{Tiles}
use Rattle.desk_audit.specs.declared.threads.Piece.{Piece}
use Rattle.desk_audit.proofs.Merging.{edge-grows, edge-last}
use Rattle.desk_audit.proofs.Tiles.{tiles-more, apart}
use Rattle.desk_audit.proofs.threads.in_scope.Goals as goal
use Rattle.desk_audit.proofs.threads.in_scope.Goals.{else-pieces-test, then-pieces-test+in_default, then-pieces-test+in-Ok+in-Err}

pub pieces-preserved : goal.pieces-preserved
pieces-preserved g c =
    let scene = c.args.scene.now in
    let agents : c.count.result ≡ length scene.rows = c.count.ensures.is ∙ ap (λ (r : List (ℕ × Row)). length r) c.plans.ensures.rows in
    let to_is : c.edge_of-to.result ≡ edge (length scene.rows) c.args.workers (c.pieces.piece + 1) = c.edge_of-to.ensures.edge ∙ ap (λ n. edge n c.args.workers (c.pieces.piece + 1)) agents in
    let made = c.in-Ok.ensures.ok in
    let grows : c.pieces.from ≤ c.edge_of-to.result = rw (c.pieces.invariant.from_is, to_is) (edge-grows (length scene.rows) c.args.workers c.pieces.piece c.requires.some) in
    let more = tiles-more scene 0 c.pieces.from (map (λ h. h.promise) c.pieces.children.items) c.in-Ok.child.promise c.pieces.invariant.tiles
    (ap (λ (p : Piece). p.scene.now) made) (ap (λ (p : Piece). p.from) made) (rw made grows) in
    record {
      from_is = to_is;
      within = omega (arith, c.edge_of-to.ensures.within, agents);
      whole = c.pieces.invariant.whole;
      tiles = rw (c.in_default-push.ensures.items, map-append) (subst (Tiles scene 0 _) (ap (λ (p : Piece). p.to) made) more);
    }

pub returns : goal.returns
returns g c =
    let scene = c.args.scene.now in
    elim c.pieces-test.branch [
      | else-pieces-test w ↦
          let all_of : c.pieces.piece ≡ c.args.workers = omega (arith, c.pieces.auto.piece-end, w.pieces-test.false) in
          let whole : c.pieces.from ≡ length scene.rows = c.pieces.invariant.from_is ∙ ap (λ k. edge (length scene.rows) c.args.workers k) all_of ∙ edge-last _ _ c.requires.some in
          IfSome_then c.joined.result c.joined.ensures.part (λ part is. is (length scene.rows) (rw w.children-is (subst (Tiles scene 0 _) whole c.pieces.invariant.tiles)))
      | then-pieces-test+in_default w ↦ IfSome_then c.joined.result c.joined.ensures.all (λ part kept. absurd (apart _ w.lost-is kept))
      | then-pieces-test+in-Ok+in-Err w ↦ IfSome_then c.joined.result c.joined.ensures.all (λ part kept. absurd (apart _ w.lost-is kept))
    ]
