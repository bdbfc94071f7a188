-- Several changes taken back, the last one first.
use Rattle.std.proofs.Common.{◌≡◌, ℕ, ◌≤◌, List, [], ◌∷◌, ◌++◌, refl, sym, ap, subst, arith}
use Rattle.std.proofs.lemmas.Grind.{fold-append}
use Rattle.scene_edits.specs.Scene.{SceneState}
use Rattle.scene_edits.specs.Board.{room_after, room_left}
use Rattle.scene_edits.specs.Undone.{undone, undone_all, IsUndoable, AreUndoable}
use Rattle.scene_edits.specs.declared.changes.Change.{Change}
use Rattle.scene_edits.specs.declared.changes.Change.TheVariants.{Added, Dropped, Aimed, Moved, Flipped, Same}

pub undone_all-push : (scene : SceneState) (changes : List Change) (change : Change) → undone_all scene (changes ++ change ∷ []) ≡ undone_all (undone scene change) changes
undone_all-push scene [] change = refl
undone_all-push scene (first ∷ later) change = ap (λ s. undone s first) (undone_all-push scene later change)

pub are_undoable-last : (scene : SceneState) (changes : List Change) (change : Change) → AreUndoable scene (changes ++ change ∷ []) → IsUndoable scene change × AreUndoable (undone scene change) changes
are_undoable-last scene [] change ready = (ready.1, tt)
are_undoable-last scene (first ∷ later) change ready =
    let rest = are_undoable-last scene later change ready.0 in
    (rest.0, (rest.1, subst (λ s. IsUndoable s first) (undone_all-push scene later change) ready.1))

pub are_undoable-push : (scene : SceneState) (changes : List Change) (change : Change) → IsUndoable scene change → AreUndoable (undone scene change) changes → AreUndoable scene (changes ++ change ∷ [])
are_undoable-push scene [] change ready earlier = (tt, ready)
are_undoable-push scene (first ∷ later) change ready earlier =
    (are_undoable-push scene later change ready earlier.0, subst (λ s. IsUndoable s first) (sym (undone_all-push scene later change)) earlier.1)

pub room_left-push : (changes : List Change) (change : Change) → room_left (changes ++ change ∷ []) ≡ room_after (room_left changes) change
room_left-push changes change = fold-append room_after 0 changes (change ∷ [])

-- more room before leaves no less after
pub room_after-more : (less more : ℕ) (change : Change) → less ≤ more → room_after less change ≤ room_after more change
room_after-more less more (Added agent) h = omega arith
room_after-more less more (Dropped agent row) h = omega arith
room_after-more less more (Aimed agent goal) h = h
room_after-more less more (Moved agent plan since) h = h
room_after-more less more (Flipped cell) h = h
room_after-more less more (Same cell) h = h
