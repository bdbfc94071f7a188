use Rattle.std.proofs.Common.{rules, ◌≡◌, ◌⊎◌, [], Bool, IfOk, IfErr, sym, subst, unwrap_or, ◌∙◌}
use Rattle.std.specs.Prelude.{is_none}
use Rattle.std.proofs.lemmas.Result.{IfErr-weaker, IfOk-weaker}
use Rattle.solver_check.specs.CheckEdits.{edits_within}
use Rattle.solver_check.specs.CheckFaults.{IsRefused, of_run}
use Rattle.solver_check.specs.Opens.{IsOpenFault, bytes_of}
use Rattle.solver_check.specs.Verdicts.{IsOn}
use Rattle.solver_check.specs.Wrongs.{wrongs_of}
use Rattle.solver_check.specs.declared.faults.RunFault.{RunFault}
use Rattle.solver_check.specs.declared.checks.faults.CheckFault.{CheckFault}
use Rattle.solver_check.specs.declared.checks.faults.CheckFault.TheVariants.{OutOfMemory}
use Rattle.solver_check.proofs.Judging.{fault_on, none_of_bytes, unread_fault, verdict_on}
use Rattle.solver_check.proofs.checks.judging.judge.Goals as goal

pub returns-clause-ok : goal.returns-clause-ok
returns-clause-ok g c =
    let bare : c.is_none.result ≡ is_none c.args.problem.scen = search rules in
    IfOk-weaker c.judge_opened.result _ _
    (verdict_on c.args.problem.map.now (bytes_of c.args.problem.scen) c.args.problem.agents c.args.problem.mode c.args.paths.now c.args.form c.in-Ok.opened.spelled c.in-Ok.opened.scene c.args.kinds c.in-Ok.ensures.ok)
    (subst (λ (b : Bool). IfOk c.judge_opened.result (IsOn b c.in-Ok.opened.spelled c.in-Ok.opened.scene c.args.kinds)) (bare ∙ none_of_bytes c.args.problem.scen) c.judge_opened.ensures.ok)

pub returns-clause-err : goal.returns-clause-err
returns-clause-err g c =
    let bare : c.is_none.result ≡ is_none c.args.problem.scen = search rules in
    IfErr-weaker c.judge_opened.result _ _
    (fault_on c.args.problem.map.now (bytes_of c.args.problem.scen) c.args.problem.agents c.args.problem.mode c.args.paths.now c.args.form c.in-Ok.opened.spelled c.in-Ok.opened.scene c.in-Ok.ensures.ok)
    (subst (λ (b : Bool). IfErr c.judge_opened.result (λ (fault : CheckFault). (fault ≡ OutOfMemory) ⊎ ((wrongs_of b c.in-Ok.opened.scene c.in-Ok.opened.spelled ≡ []) × IsRefused c.in-Ok.opened.scene (edits_within b c.in-Ok.opened.scene c.in-Ok.opened.spelled) fault))) (bare ∙ none_of_bytes c.args.problem.scen) c.judge_opened.ensures.err)

pub returns-in-Some-clause-err : goal.returns-in-Some-clause-err
returns-in-Some-clause-err g c =
    IfErr-weaker c.told_unread.result _ _
    (λ (fault : CheckFault) (found : (why : RunFault) × (fault ≡ of_run why) × IsOpenFault c.args.problem.map.now (bytes_of c.args.problem.scen) (unwrap_or c.args.problem.agents 0) why).
    unread_fault c.args.problem.map.now (bytes_of c.args.problem.scen) c.args.problem.agents c.args.problem.mode c.args.paths.now c.args.form c.in-Err.fault fault c.in-Some.verdict found.0 c.in-Err.ensures.err (sym c.verdict_by.ensures ∙ c.in-Some.is) found.1 found.2)
    c.told_unread.ensures.err
