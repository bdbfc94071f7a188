-- Rows of a scene are on its map, and so is what edits and entries name.
use Rattle.std.proofs.Common.{◌≡◌, ℕ, get_or, Some, ◌+◌, inl, inr, List, [], ◌∷◌, ◌++◌, refl, subst, ◌∙◌, arith}
use Rattle.std.specs.List.{slice_get, All}
use Rattle.std.proofs.lemmas.Option.{slice_get-get_or}
use Rattle.plan_table.specs.declared.plans.Row.{Row}
use Rattle.plan_table.proofs.Fleets.{row_here}
use Rattle.desk_report.specs.Laws.{IsPathOn}
use Rattle.scene_edits.specs.Scene.{SceneState, IsScene, IsRowOn}
use Rattle.grid_cells.specs.Size.{Extent, Holds}
use Rattle.scene_edits.proofs.Deciding.{in_or_not}
use Rattle.scene_edits.specs.Edited.{edited}
use Rattle.scene_edits.specs.Faults.{IsAllowed}
use Rattle.scene_edits.specs.InOrder.{edited_all, AreAllowed}
use Rattle.scene_edits.specs.declared.edits.EditFault.TheVariants.{OutOfMap}
use Rattle.std.proofs.lemmas.List.Elements.{All-head}
use Rattle.scene_edits.specs.declared.changes.Thing.{Thing}
use Rattle.scene_edits.specs.declared.edits.Edit.{Edit}
use Rattle.scene_edits.specs.declared.edits.Edit.TheVariants.{Add, Drop, Goal, Path, Tail, Open, Close}
use Rattle.desk_commits.specs.Entries.{Entry, thing_of, NamesThing}
use Rattle.desk_commits.specs.Stamps.{IsOn, NameOnMap, NameCellsOfMap}
use Rattle.desk_commits.proofs.Anywhere.{Any-nil, Any-cons}
use Rattle.desk_commits.proofs.Stamping.{named_push}

-- the row at a rank is on the map
pub row_on : (scene : SceneState) → IsScene scene → (rank agent : ℕ) (row : Row) → slice_get scene.rows rank ≡ Some (agent, row) → IsRowOn scene.grid.size row
row_on scene is rank agent row there = is.on_map agent row (row_here scene.rows is.by_agent rank agent row there).0

-- the paths of a scene's rows are paths on its map
pub paths_on : (scene : SceneState) → IsScene scene → All (λ (entry : ℕ × Row). IsPathOn scene.grid entry.1.plan) scene.rows
paths_on scene is rank d within =
    let entry : ℕ × Row = get_or scene.rows rank d in
    let row = row_on scene is rank entry.0 entry.1 (slice_get-get_or scene.rows rank d within) in
    record { path_is = row.path; held = row.cells }

-- an edit that is allowed names cells of the map alone
allowed_on : (scene : SceneState) (edit : Edit) → IsAllowed scene edit → IsOn scene.grid.size (thing_of edit)
allowed_on scene (Add a start goal) allowed = tt
allowed_on scene (Drop a) allowed = tt
allowed_on scene (Goal a goal) allowed = tt
allowed_on scene (Path a cells) allowed = tt
allowed_on scene (Tail a from cells) allowed = tt
allowed_on scene (Open cell) allowed = elim (in_or_not scene.grid.size (cell ∷ [])) [ inl all ↦ All-head (Holds scene.grid.size) cell [] all | inr out ↦ absurd (allowed OutOfMap (refl, out)) ]
allowed_on scene (Close cell) allowed = elim (in_or_not scene.grid.size (cell ∷ [])) [ inl all ↦ All-head (Holds scene.grid.size) cell [] all | inr out ↦ absurd (allowed OutOfMap (refl, out)) ]

named_on : (size : Extent) (edit : Edit) (thing : Thing) → IsOn size (thing_of edit) → NamesThing thing edit → IsOn size thing
named_on size edit thing on names = grind arith

same_size : (scene : SceneState) (edit : Edit) → (edited scene edit).grid.size ≡ scene.grid.size
same_size scene edit = grind arith

-- edits that are allowed name cells of the map alone
pub all_on : (scene : SceneState) (edits : List Edit) → AreAllowed scene edits → NameOnMap scene.grid.size edits
all_on scene [] allowed thing any = absurd (Any-nil (NamesThing thing) any)
all_on scene (edit ∷ later) allowed thing any =
    elim (Any-cons (NamesThing thing) edit later any) [
      | inl names ↦ named_on scene.grid.size edit thing (allowed_on scene edit allowed.0) names
      | inr after ↦ subst (λ (size : Extent). IsOn size thing) (same_size scene edit) (all_on (edited scene edit) later allowed.1 thing after)
    ]

-- edits leave the size of the map
pub same_size_all : (scene : SceneState) (edits : List Edit) → (edited_all scene edits).grid.size ≡ scene.grid.size
same_size_all scene [] = refl
same_size_all scene (edit ∷ later) = same_size_all (edited scene edit) later ∙ same_size scene edit

-- what an entry of a journal on the map names is on the map
pub entry_on : (size : Extent) (journal : List Entry) (index : ℕ) (entry : Entry) → NameCellsOfMap size journal → slice_get journal index ≡ Some entry → NameOnMap size entry.edits
entry_on size journal index entry on there thing any =
    on thing (index + 1) (record { entry = entry; counted = omega arith; there = subst (λ k. slice_get journal k ≡ Some entry) (omega arith) there; names = any })

pub on_map_push : (size : Extent) (journal : List Entry) (entry : Entry) → NameCellsOfMap size journal → NameOnMap size entry.edits → NameCellsOfMap size (journal ++ entry ∷ [])
on_map_push size journal entry on more thing number named =
    elim (named_push journal entry thing number named) [ inl earlier ↦ on thing number earlier | inr last ↦ more thing last.1 ]
