use Rattle.std.proofs.Common.{◌≡◌, sym, subst, refl}
use Rattle.scene_edits.specs.Scene.{SceneState}
use Rattle.desk_report.specs.Report.{IsReportOf}
use Rattle.desk_commits.specs.Questions.{ArePriced}
use Rattle.desk_commits.specs.State.{version_of}
use Rattle.desk_commits.proofs.OnMap.{paths_on}
use Rattle.desk_core.proofs.questions.cut.Goals as goal

pub returns-in-Ok-clause-cut : goal.returns-in-Ok-clause-cut
returns-in-Ok-clause-cut c = λ desk same.
    let scene = c.args.scene.now in
    let told = c.in-Ok.ensures.cut in
    let priced = c.settle_is_bound_and_gap.ensures scene.grid scene.mode scene.rows told.whole (paths_on scene c.plans-plans.ensures.scene) told.is_report in
    record {
      whole = record { version = version_of desk; report = told.whole };
      shown = record {
        version = refl;
        report = subst (λ (s : SceneState). IsReportOf s.grid s.mode s.rows told.whole) (sym same) told.is_report;
        priced = subst (λ (s : SceneState). ArePriced s.grid s.rows told.whole.lines) (sym same) priced;
      };
      version = refl;
      is_cut = told.is_cut;
    }
