use Rattle.std.proofs.Common.{◌≡◌, List, [], ◌∷◌, ◌++◌, length, take, Some, refl, sym, subst, arith}
use Rattle.std.specs.List.{slice_get}
use Rattle.std.proofs.lemmas.Option.{slice_get_read}
use Rattle.scene_edits.specs.Board.{scene_of}
use Rattle.scene_edits.specs.declared.edits.Edit.{Edit}
use Rattle.scene_edits.specs.declared.changes.Change.{Change}
use Rattle.scene_edits.proofs.EditsInOrder.{Underway, underway-more, take-next, all_refused}
use Rattle.scene_edits.proofs.boards.Board.apply_all.Goals as goal

pub returns-in-Err-clause-applied : goal.returns-in-Err-clause-applied
returns-in-Err-clause-applied c =
    let there : slice_get c.args.edits.now c.loop-index.index ≡ Some c.index-edits-index.result = slice_get_read c.args.edits.now (length c.args.edits.now) c.loop-index.index c.index-edits-index.result refl (omega arith) c.index-edits-index.is in
    rw c.at_index.ensures (all_refused (scene_of c.args.self.now) (scene_of c.loop-index.self) (scene_of c.apply.new.self) (scene_of c.undo_all.new.self) c.args.edits.now c.loop-index.done.items c.loop-index.self.plans.room c.loop-index.index c.index-edits-index.result c.in-Err.fault c.loop-index.invariant.underway there c.in-Err.ensures.applied c.undo_all.ensures)

pub loop-index-preserved : goal.loop-index-preserved
loop-index-preserved c =
    let there : slice_get c.args.edits.now c.loop-index.index ≡ Some c.index-edits-index.result = slice_get_read c.args.edits.now (length c.args.edits.now) c.loop-index.index c.index-edits-index.result refl (omega arith) c.index-edits-index.is in
    let way = underway-more (scene_of c.args.self.now) (take c.loop-index.index c.args.edits.now) c.loop-index.done.items (scene_of c.loop-index.self) (scene_of c.apply.new.self) c.loop-index.self.plans.room c.apply.new.self.plans.room c.index-edits-index.result c.in-Ok-apply.change c.loop-index.invariant.underway c.in-Ok-apply.ensures.applied c.in-Ok-apply.ensures.room in
    record {
      underway = subst (λ (list : List Edit). Underway (scene_of c.args.self.now) list c.put.new.changes.items (scene_of c.apply.new.self) c.apply.new.self.plans.room) (sym (take-next c.args.edits.now c.loop-index.index c.index-edits-index.result there))
          (subst (λ (list : List Change). Underway (scene_of c.args.self.now) (take c.loop-index.index c.args.edits.now ++ c.index-edits-index.result ∷ []) list (scene_of c.apply.new.self) c.apply.new.self.plans.room) (sym c.put.ensures.items) way);
      count = omega (arith, c.put.ensures.len, c.loop-index.invariant.count);
      reserved = omega (arith, c.put.ensures.capacity, c.loop-index.invariant.reserved);
    }
