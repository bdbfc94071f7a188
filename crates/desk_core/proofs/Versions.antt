-- Scenes and desks at their versions.
use Rattle.std.proofs.Common.{◌≡◌, List, [], ◌∷◌, ◌++◌, length, take, refl, sym, ap, ◌∙◌, arith}
use Rattle.std.proofs.lemmas.List.{take_all, take-append-le}
use Rattle.scene_edits.specs.Scene.{SceneState}
use Rattle.scene_edits.specs.InOrder.{edited_all}
use Rattle.desk_commits.specs.Entries.{Entry}
use Rattle.desk_commits.specs.State.{DeskState, version_of, grown, scene_after, earlier}

pub scene_after-push : (start : SceneState) (journal : List Entry) (entry : Entry) → scene_after start (journal ++ entry ∷ []) ≡ edited_all (scene_after start journal) entry.edits
scene_after-push start [] entry = refl
scene_after-push start (first ∷ later) entry = scene_after-push (edited_all start first.edits) later entry

-- one entry more makes the scene that its edits make
pub made_on : (start scene new : SceneState) (journal : List Entry) (entry : Entry) → scene ≡ scene_after start journal → new ≡ edited_all scene entry.edits → new ≡ scene_after start (journal ++ entry ∷ [])
made_on start scene new journal entry made edits = edits ∙ ap (λ (s : SceneState). edited_all s entry.edits) made ∙ sym (scene_after-push start journal entry)

pub take_whole : (journal : List Entry) → take (length journal) journal ≡ journal
take_whole journal = take_all (length journal) journal (omega arith)

-- so many entries of a longer journal
pub take_before : (journal : List Entry) (entry : Entry) → take (length journal) (journal ++ entry ∷ []) ≡ journal
take_before journal entry = take-append-le (length journal) journal (entry ∷ []) (omega arith) ∙ take_whole journal

-- a desk with that front of its journal
at_front : (desk : DeskState) (front : List Entry) → front ≡ desk.journal → desk.scene ≡ scene_after desk.start desk.journal → ◌≡◌ {A = DeskState} (record { start = desk.start; scene = scene_after desk.start front; journal = front; limit = desk.limit }) desk
at_front desk front is made =
    ap (λ (j : List Entry). let d : DeskState = record { start = desk.start; scene = scene_after desk.start j; journal = j; limit = desk.limit } in d) is
    ∙ ap (λ (s : SceneState). let d : DeskState = record { start = desk.start; scene = s; journal = desk.journal; limit = desk.limit } in d) (sym made)

-- at its version the desk was what it is
pub earlier_now : (desk : DeskState) → desk.scene ≡ scene_after desk.start desk.journal → earlier desk (version_of desk) ≡ desk
earlier_now desk made = at_front desk (take (length desk.journal) desk.journal) (take_whole desk.journal) made

-- and so was the desk after one more entry
pub earlier_grown : (desk : DeskState) (entry : Entry) → desk.scene ≡ scene_after desk.start desk.journal → earlier (grown desk entry) (version_of desk) ≡ desk
earlier_grown desk entry made = at_front desk (take (length desk.journal) (desk.journal ++ entry ∷ [])) (take_before desk.journal entry) made
