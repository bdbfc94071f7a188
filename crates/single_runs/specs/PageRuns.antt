-- A run of `page`: the page of the scene that a map, a scenario, and a journal or a solver's paths make (this project's choice).
use Rattle.std.specs.Prelude.{ℕ, List, Option}
use Rattle.std.specs.Io.KnownBytes.{Appends}
use Rattle.plan_table.specs.declared.tracks.Mode.{Mode}
use Rattle.scene_edits.specs.Scene.{SceneState}
use Rattle.desk_report.specs.Bytes.{AppendsFront}
use Rattle.desk_report.specs.Report.{IsReportOf}
use Rattle.desk_report.specs.declared.reports.Report.{Report}
use Rattle.desk_pages.specs.Pages.{page_text}
use Rattle.desk_pages.specs.declared.pages.Page.{Page}
use Rattle.single_runs.specs.Draws.{IsDrawn}
use Rattle.single_runs.specs.declared.courses.Courses.{Courses}

-- what is written is the page of the scene and of its report
pub record IsPageOf (page : Page) (scene : SceneState) (held0 held1 : Option (List ℕ)) : Type 0 where
  pub report : Report
  pub told : IsReportOf scene.grid scene.mode scene.rows report
  pub written : Appends held0 held1 (page_text page scene report)

-- what is written is a prefix of that page
pub record IsPageFront (page : Page) (scene : SceneState) (held0 held1 : Option (List ℕ)) : Type 0 where
  pub report : Report
  pub told : IsReportOf scene.grid scene.mode scene.rows report
  pub written : AppendsFront held0 held1 (page_text page scene report)

-- what a run that comes to its end has written
pub record Pages (map : List ℕ) (scen : Option (List ℕ)) (agents : Option ℕ) (mode : Mode) (courses : Courses) (page : Page) (held0 held1 : Option (List ℕ)) : Type 0 where
  pub scene : SceneState
  pub drawn : IsDrawn map scen agents mode courses scene
  pub written : IsPageOf page scene held0 held1

-- what a run whose writer failed has written
pub record PagesFront (map : List ℕ) (scen : Option (List ℕ)) (agents : Option ℕ) (mode : Mode) (courses : Courses) (page : Page) (held0 held1 : Option (List ℕ)) : Type 0 where
  pub scene : SceneState
  pub drawn : IsDrawn map scen agents mode courses scene
  pub written : IsPageFront page scene held0 held1
