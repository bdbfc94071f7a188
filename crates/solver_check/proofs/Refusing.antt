-- The first edit that a scene refuses, as a fault.
use Rattle.std.specs.Prelude.{is_none}
use Rattle.std.proofs.Common.{◌≡◌, inl, inr, ℕ, List, Option, Some, Ok, sym, subst, ◌∙◌}
use Rattle.std.specs.List.{slice_get}
use Rattle.std.proofs.lemmas.Option.{same_Some}
use Rattle.grid_cells.specs.Size.{Extent}
use Rattle.scene_edits.specs.Scene.{SceneState}
use Rattle.scene_edits.specs.InOrder.{IsFirstFault}
use Rattle.scene_edits.specs.declared.edits.Edit.{Edit}
use Rattle.scene_edits.specs.declared.edits.Edit.TheVariants as edits
use Rattle.scene_edits.specs.declared.edits.EditFault.{EditFault}
use Rattle.plan_table.specs.declared.tracks.Mode.{Mode}
use Rattle.path_files.specs.Texts.{paths_of}
use Rattle.path_files.specs.declared.forms.Form.{Form}
use Rattle.path_files.specs.declared.paths.SolverPaths.{SolverPaths}
use Rattle.solver_check.specs.Opens.{Opens}
use Rattle.solver_check.specs.CheckEdits.{begun, edits_of}
use Rattle.solver_check.specs.CheckTimes.{time_of_fault}
use Rattle.solver_check.specs.CheckFaults.{TellsFault, IsFirstRefusal, IsRefused, IsPlanFault, HasRefusal, tasks_taken}
use Rattle.solver_check.specs.declared.checks.faults.CheckFault.{CheckFault}
use Rattle.solver_check.specs.declared.checks.faults.CheckFault.TheVariants.{Agent, Path}

-- told of the edit that stands there
pub first-refusal : (scene : SceneState) (asked : List Edit) (index : ℕ) (why : EditFault) (edit : Edit) (fault : CheckFault) → IsFirstFault scene asked index why → slice_get asked index ≡ Some edit → TellsFault scene.grid.size edit why fault → IsRefused scene asked fault
first-refusal scene asked index why edit fault first there told = inl (record {
  index = index;
  why = why;
  first = first;
  told = subst (λ (e : Edit). TellsFault scene.grid.size e why fault) (same_Some _ _ (sym there ∙ first.there)) told;
})

-- told on the map of that size, of the edit in a list that is the one asked for
pub told-first : (scene : SceneState) (list asked : List Edit) (index : ℕ) (why : EditFault) (edit : Edit) (size : Extent) (fault : CheckFault) → list ≡ asked → size ≡ scene.grid.size → IsFirstFault scene list index why → slice_get list index ≡ Some edit → TellsFault size edit why fault → IsRefused scene asked fault
told-first scene list asked index why edit size fault same on first there told =
    subst (λ (l : List Edit). IsRefused scene l fault) same
    (first-refusal scene list index why edit fault first there (subst (λ (s : Extent). TellsFault s edit why fault) on told))

-- a refusal is told of an agent or of a path
pub told-so : (size : Extent) (edit : Edit) (why : EditFault) (fault : CheckFault) (P : CheckFault → Type 0) → TellsFault size edit why fault → ((agent : ℕ) (of : EditFault) → P (Agent agent of)) → ((agent time : ℕ) (of : EditFault) → P (Path agent time of)) → P fault
told-so size (edits.Add agent start goal) why fault P told agents paths = subst P (sym told) (agents agent why)
told-so size (edits.Path agent cells) why fault P told agents paths = subst P (sym told) (paths agent (time_of_fault size cells why) why)
told-so size (edits.Drop agent) why fault P told agents paths = absurd told
told-so size (edits.Goal agent goal) why fault P told agents paths = absurd told
told-so size (edits.Tail agent from cells) why fault P told agents paths = absurd told
told-so size (edits.Open cell) why fault P told agents paths = absurd told
told-so size (edits.Close cell) why fault P told agents paths = absurd told

-- the scene opens, and refuses an edit or wants memory
pub plan_fault : (map : List ℕ) (scen : Option (List ℕ)) (agents : Option ℕ) (mode : Mode) (paths : List ℕ) (form : Option Form) (spelled read : SolverPaths) (opened : SceneState) (fault : CheckFault) → paths_of (is_none scen) form paths ≡ Ok read → Opens map scen (tasks_taken agents read) mode opened → spelled ≡ begun opened read → IsRefused opened (edits_of (is_none scen) spelled) fault → IsPlanFault map scen agents mode paths form fault
plan_fault map scen agents mode paths form spelled read opened fault reads opens starts (inl first) =
    told-so opened.grid.size first.first.edit first.why fault (λ f. HasRefusal map scen agents mode paths form f → IsPlanFault map scen agents mode paths form f) first.told
    (λ agent why refusal. refusal)
    (λ agent time why refusal. refusal)
    (record {
      spelled = read;
      reads = reads;
      opened = opened;
      opens = opens;
      first = subst (λ (s : SolverPaths). IsFirstRefusal opened (edits_of (is_none scen) s) fault) starts first;
    })
plan_fault map scen agents mode paths form spelled read opened fault reads opens starts (inr none) = subst (IsPlanFault map scen agents mode paths form) (sym none) tt
