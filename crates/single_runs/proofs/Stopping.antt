-- A run that has its scene fails by want of memory or by its writer.
use Rattle.std.specs.Prelude.{◌⊎◌, IfErr}
use Rattle.std.proofs.Common.{◌≡◌, inr, ℕ, List, Option, Result, Ok, Err}
use Rattle.plan_table.specs.declared.tracks.Mode.{Mode}
use Rattle.scene_edits.specs.Scene.{SceneState}
use Rattle.solver_check.specs.declared.checks.faults.CheckFault.{CheckFault}
use Rattle.solver_check.specs.declared.checks.faults.CheckFault.TheVariants.{WriteFailed, OutOfMemory}
use Rattle.single_runs.specs.declared.courses.Courses.{Courses}
use Rattle.desk_pages.specs.declared.pages.Page.{Page}
use Rattle.single_runs.specs.Draws.{IsDrawn, FailsDraw}
use Rattle.single_runs.specs.PageRuns.{IsPageFront, PagesFront}

pub stops : {T : Type 0} (map : List ℕ) (scen : Option (List ℕ)) (agents : Option ℕ) (mode : Mode) (courses : Courses) (scene : SceneState) (result : Result T CheckFault) → IsDrawn map scen agents mode courses scene → IfErr result (λ fault. (fault ≡ OutOfMemory) ⊎ (fault ≡ WriteFailed)) → IfErr result (FailsDraw map scen agents mode courses)
stops map scen agents mode courses scene (Ok done) drawn told = tt
stops map scen agents mode courses scene (Err fault) drawn told = inr (record { scene = scene; drawn = drawn; told = told })

-- and where its writer fails, within the page of that scene
pub stops_within : {T : Type 0} (map : List ℕ) (scen : Option (List ℕ)) (agents : Option ℕ) (mode : Mode) (courses : Courses) (page : Page) (held0 held1 : Option (List ℕ)) (scene : SceneState) (result : Result T CheckFault) → IsDrawn map scen agents mode courses scene
    → IfErr result (λ fault. fault ≡ WriteFailed → IsPageFront page scene held0 held1) → IfErr result (λ fault. fault ≡ WriteFailed → PagesFront map scen agents mode courses page held0 held1)
stops_within map scen agents mode courses page held0 held1 scene (Ok done) drawn within = tt
stops_within map scen agents mode courses page held0 held1 scene (Err fault) drawn within = λ failed. record { scene = scene; drawn = drawn; written = within failed }
