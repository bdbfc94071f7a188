use Rattle.std.proofs.Common.{ℕ, subst, arith}
use Rattle.scene_edits.specs.Scene.{SceneState}
use Rattle.desk_audit.specs.Parts.{IsPart}
use Rattle.desk_audit.proofs.Tiles.{part_none, part_join, tiles_none}
use Rattle.desk_audit.proofs.threads.joined.Goals as goal

pub joins-init : goal.joins-init
joins-init g c =
    let scene = c.args.scene.now in
    record {
      can = tt;
      finite = tt;
      all = λ e. e;
      so_far = λ e end tiles. (0, rw c.into_iter-child-iterator.ensures.into_iter_gives.0 tiles, part_none scene.grid scene.mode scene.rows c.new-whole.result c.new-whole.ensures.conflicts c.new-whole.ensures.visits c.new-whole.ensures.lines);
    }

pub joins-preserved-in-Ok-append : goal.joins-preserved-in-Ok-append
joins-preserved-in-Ok-append g c =
    let scene = c.args.scene.now in
    let promise = c.in-Some.child.promise in
    record {
      can = tt;
      finite = tt;
      all = c.joins.invariant.all;
      so_far = λ e end all.
          let (at, tiles, so) = c.joins.invariant.so_far e end all in
          let next = rw c.in-Some.ensures.steps.0 at tiles in
          let here : IsPart scene.grid scene.mode scene.rows at promise.to c.in-Ok.part = subst (λ (f : ℕ). IsPart scene.grid scene.mode scene.rows f promise.to c.in-Ok.part) next.1 (subst (λ (s : SceneState). IsPart s.grid s.mode s.rows promise.from promise.to c.in-Ok.part) next.0 c.in-Ok.ensures) in
          (promise.to, next.3, part_join scene.grid scene.mode scene.rows c.plans-agents.ensures.scene.by_agent at promise.to next.2 c.joins.whole c.in-Ok.part c.append.new.self so here c.in-Ok-append.ensures.conflicts c.in-Ok-append.ensures.visits c.in-Ok-append.ensures.lines);
    }

pub returns-clause-part : goal.returns-clause-part
returns-clause-part g c end all =
    let scene = c.args.scene.now in
    let (at, tiles, so) = c.joins.invariant.so_far c.if-lost.false end all in
    subst (λ (e : ℕ). IsPart scene.grid scene.mode scene.rows 0 e c.joins.whole) (tiles_none _ scene at end c.joins.child-iterator.rest.items (omega (arith, c.in-None.ensures.steps.0, c.joins.child-iterator.rest.ok)) tiles) so
