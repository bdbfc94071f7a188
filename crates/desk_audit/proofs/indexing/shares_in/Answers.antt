use Rattle.std.proofs.Common.{arith, ◌≡◌, map, ap, subst}
use Rattle.std.proofs.lemmas.List.{map-append}
use Rattle.std.proofs.lemmas.Option.{IfSome_then}
use Rattle.plan_table.specs.Route.{tracks_of}
use Rattle.desk_audit.specs.Pieces.{Counts}
use Rattle.desk_audit.specs.declared.indexing.Sought.{Sought}
use Rattle.desk_audit.proofs.Index.{counts-more, shares_all}
use Rattle.desk_audit.proofs.Tiles.{apart}
use Rattle.desk_audit.proofs.indexing.shares_in.Goals as goal
use Rattle.desk_audit.proofs.indexing.shares_in.Goals.{else-shares-test, then-shares-test+in_default, then-shares-test+in-Ok+in-Err}

pub shares-preserved : goal.shares-preserved
shares-preserved g c =
    let made = c.in-Ok.ensures.ok in
    let more = counts-more c.args.scene.now c.args.many 0 c.shares.number (map (λ h. h.promise) c.shares.children.items) c.in-Ok.child.promise c.shares.invariant.counts
    (ap (λ (s : Sought). s.scene.now) made) (ap (λ (s : Sought). s.share) made) in
    record {
      whole = c.shares.invariant.whole;
      counts = rw (c.in_default-push.ensures.items, map-append) more;
    }

pub returns : goal.returns
returns g c =
    let scene = c.args.scene.now in
    elim c.shares-test.branch [
      | else-shares-test w ↦
          let all_of : c.shares.number ≡ c.args.many = omega (arith, c.shares.auto.number-end, w.shares-test.false) in
          IfSome_then c.shares_of.result c.shares_of.ensures.shares (λ index is.
          let whole = is c.args.many (rw w.children-is (subst (Counts scene c.args.many 0 _) all_of c.shares.invariant.counts)) in
          shares_all (tracks_of scene.mode scene.rows) c.args.many index.items c.requires whole.0 whole.1)
      | then-shares-test+in_default w ↦ IfSome_then c.shares_of.result c.shares_of.ensures.all (λ index kept. absurd (apart _ w.lost-is kept))
      | then-shares-test+in-Ok+in-Err w ↦ IfSome_then c.shares_of.result c.shares_of.ensures.all (λ index kept. absurd (apart _ w.lost-is kept))
    ]
