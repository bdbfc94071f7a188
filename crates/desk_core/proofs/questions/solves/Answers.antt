use Rattle.std.proofs.Common.{◌≡◌, length, sym, subst, refl}
use Rattle.scene_edits.specs.Scene.{SceneState}
use Rattle.desk_report.specs.Report.{IsReportOf}
use Rattle.desk_commits.specs.Questions.{ArePriced}
use Rattle.desk_commits.specs.State.{version_of}
use Rattle.desk_commits.proofs.OnMap.{paths_on}
use Rattle.desk_core.proofs.questions.solves.Goals as goal

pub returns : goal.returns
returns c = λ desk same.
    let scene = c.args.scene.now in
    let told = c.solves.ensures in
    let priced = c.settle_is_bound_and_gap.ensures scene.grid scene.mode scene.rows told.report (paths_on scene c.plans-plans.ensures.scene) told.is_report in
    record {
      reading = record { version = version_of desk; report = told.report };
      shown = record {
        version = refl;
        report = subst (λ (s : SceneState). IsReportOf s.grid s.mode s.rows told.report) (sym same) told.is_report;
        priced = subst (λ (s : SceneState). ArePriced s.grid s.rows told.report.lines) (sym same) priced;
      };
      says = told.says;
    }
