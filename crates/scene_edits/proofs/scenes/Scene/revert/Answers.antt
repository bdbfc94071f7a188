use Rattle.std.proofs.Common.{◌≡◌, List, sym, subst, ◌∙◌}
use Rattle.scene_edits.specs.Scene.{SceneState, IsScene}
use Rattle.scene_edits.specs.Board.{scene_of}
use Rattle.scene_edits.specs.ChangedBy.{ChangedBy}
use Rattle.scene_edits.specs.declared.changes.Change.{Change}
use Rattle.scene_edits.proofs.scenes.Scene.revert.Goals as goal

-- the changes are those of the board with room
by_parts : (before old now new : SceneState) (changes parts : List Change) → parts ≡ changes → new ≡ now → now ≡ old → ChangedBy before changes old → ChangedBy before parts new
by_parts before old now new changes parts are same is changed = subst (λ (list : List Change). ChangedBy before list new) (sym are) (subst (ChangedBy before changes) (sym (same ∙ is)) changed)

pub invariant_of-self : goal.invariant_of-self
invariant_of-self c =
    let (before, changed) = c.requires in
    let parts : ChangedBy before c.into_parts-changes.result.0.items (scene_of c.make_way.new.self) = by_parts before c.args.self.now (scene_of c.self.inside.board) (scene_of c.make_way.new.self) c.args.changes c.into_parts-changes.result.0.items c.into_parts-changes.ensures.changes c.make_way.ensures.same c.self.view_is changed in
    subst IsScene (sym (c.revert.ensures.back before parts)) changed.is_scene

pub returns-clause-back : goal.returns-clause-back
returns-clause-back c = λ before changed. c.revert.ensures.back before (by_parts before c.args.self.now (scene_of c.self.inside.board) (scene_of c.make_way.new.self) c.args.changes c.into_parts-changes.result.0.items c.into_parts-changes.ensures.changes c.make_way.ensures.same c.self.view_is changed)
