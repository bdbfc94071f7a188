use Rattle.std.proofs.Common.{rules, ◌≡◌, Bool, subst, ◌∙◌}
use Rattle.std.specs.Prelude.{is_none}
use Rattle.solver_check.specs.CheckEdits.{edits_of}
use Rattle.solver_check.specs.CheckFaults.{IsRefused}
use Rattle.solver_check.specs.Opens.{bytes_of}
use Rattle.solver_check.proofs.Judging.{none_of_bytes}
use Rattle.solver_check.proofs.Refusing.{plan_fault}
use Rattle.solver_check.proofs.checks.scenes.planned_scene.Goals as goal

pub returns-in-Err-plan-clause-err : goal.returns-in-Err-plan-clause-err
returns-in-Err-plan-clause-err c =
    let bare : c.is_none.result ≡ is_none c.args.problem.scen = search rules in
    plan_fault c.args.problem.map.now (bytes_of c.args.problem.scen) c.args.problem.agents c.args.problem.mode c.args.paths.now c.args.form c.in-Ok.opened.spelled c.in-Ok.ensures.ok.read c.in-Ok.opened.scene c.in-Err-plan.fault c.in-Ok.ensures.ok.reads c.in-Ok.ensures.ok.opens c.in-Ok.ensures.ok.starts
    (subst (λ (b : Bool). IsRefused c.in-Ok.opened.scene (edits_of b c.in-Ok.opened.spelled) c.in-Err-plan.fault) (bare ∙ none_of_bytes c.args.problem.scen) c.in-Err-plan.ensures.err)
