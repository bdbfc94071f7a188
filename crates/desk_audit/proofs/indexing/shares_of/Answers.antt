use Rattle.std.proofs.Common.{[], ◌∷◌, length, subst, arith}
use Rattle.std.proofs.lemmas.List.{length-append}
use Rattle.plan_table.specs.Route.{tracks_of}
use Rattle.scene_edits.specs.Scene.{SceneState}
use Rattle.desk_audit.specs.Index.{IsShareOf, share_of}
use Rattle.desk_audit.specs.declared.sightings.Share.{Share}
use Rattle.desk_audit.proofs.Index.{counts_none, shares_none, shares_pushed}
use Rattle.desk_audit.proofs.indexing.shares_of.Goals as goal

pub joins-init : goal.joins-init
joins-init g c = record {
  can = tt;
  finite = tt;
  all = λ e. e;
  so_far = λ e end counts. rw c.new-index.ensures.items (rw c.into_iter-child-iterator.ensures.into_iter_gives.0 counts, shares_none (tracks_of c.args.scene.now.mode c.args.scene.now.rows) c.args.many);
}

pub joins-preserved-in-Ok-add_share : goal.joins-preserved-in-Ok-add_share
joins-preserved-in-Ok-add_share g c =
    let scene = c.args.scene.now in
    let fleet = tracks_of scene.mode scene.rows in
    let promise = c.in-Some.child.promise in
    let index = c.joins.index.items in
    record {
      can = tt;
      finite = tt;
      all = c.joins.invariant.all;
      so_far = λ e end all.
          let (counts, so) = c.joins.invariant.so_far e end all in
          let next = rw c.in-Some.ensures.steps.0 at counts in
          let here : IsShareOf fleet (share_of c.args.many (length index)) c.in-Ok.sightings = subst (λ (s : Share). IsShareOf fleet s c.in-Ok.sightings) next.1 (subst (λ (s : SceneState). IsShareOf (tracks_of s.mode s.rows) promise.share c.in-Ok.sightings) next.0 c.in-Ok.ensures) in
          rw c.in-Ok-add_share.ensures (rw (length-append index (c.in-Ok.sightings ∷ [])) next.2, shares_pushed fleet c.args.many index c.in-Ok.sightings so here);
    }

pub returns-clause-shares : goal.returns-clause-shares
returns-clause-shares g c end all =
    let (counts, so) = c.joins.invariant.so_far c.if-lost.false end all in
    (counts_none _ c.args.scene.now c.args.many (length c.joins.index.items) end c.joins.child-iterator.rest.items (omega (arith, c.in-None.ensures.steps.0, c.joins.child-iterator.rest.ok)) counts, so)
