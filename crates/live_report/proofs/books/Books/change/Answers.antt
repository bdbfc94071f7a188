use Rattle.std.proofs.Common.{◌≡◌, None, List, ℕ, sym, ap, subst, ◌∙◌, arith}
use Rattle.std.specs.Option.{option_map}
use Rattle.std.proofs.lemmas.Bool.Decides.{nat_tests}
use Rattle.std.proofs.lemmas.Grind.{common_steps}
use Rattle.std.proofs.lemmas.Option.{gets}
use Rattle.plan_table.specs.Plans.{row_of}
use Rattle.plan_table.specs.declared.plans.Row.{Row}
use Rattle.live_report.specs.Prices.{Rows}
use Rattle.live_report.specs.Books.{Keep}
use Rattle.scene_edits.specs.Kept.{Past}
use Rattle.live_report.proofs.Rows.{unchanged}
use Rattle.live_report.proofs.Live.{goal_inside}
use Rattle.live_report.proofs.books.Books.change.Goals as goal

pub enter-requires-clause-inside : goal.enter-requires-clause-inside
enter-requires-clause-inside c = goal_inside c.args.scene.now c.plans.ensures.scene c.plans.result.now.rows c.plans.ensures.rows c.args.former.now.agent c.in-None-Some.row.now (sym c.in-None-Some.ensures')

pub revise-requires-clause-inside : goal.revise-requires-clause-inside
revise-requires-clause-inside c = goal_inside c.args.scene.now c.plans.ensures.scene c.plans.result.now.rows c.plans.ensures.rows c.args.former.now.agent c.in-Some-Some.row.now (sym c.in-Some-Some.ensures')

pub revise-requires-clause-alike : goal.revise-requires-clause-alike
revise-requires-clause-alike c = grind (arith, nat_tests, common_steps, gets)

pub returns-in-None-None-clause-kept : goal.returns-in-None-None-clause-kept
returns-in-None-None-clause-kept c = λ rows keep has.
    let agent = c.args.former.now.agent in
    let now : row_of c.args.scene.now.rows agent ≡ None = ap (λ (r : List (ℕ × Row)). row_of r agent) (sym c.plans.ensures.rows) ∙ sym c.in-None-None.ensures' in
    let same : rows agent ≡ row_of c.args.scene.now.rows agent = has ∙ sym (ap (option_map (λ (p : Past). p.row)) c.in-None-None.ensures) ∙ sym now in
    subst (λ (r : Rows). Keep c.args.scene.now.mode c.args.scene.now.grid r c.args.self) (sym (unchanged rows agent (row_of c.args.scene.now.rows agent) same)) keep

pub returns-in-None-Some-clause-kept : goal.returns-in-None-Some-clause-kept
returns-in-None-Some-clause-kept c = grind (arith, nat_tests, common_steps, gets)

pub returns-in-Some-None-clause-kept : goal.returns-in-Some-None-clause-kept
returns-in-Some-None-clause-kept c = grind (arith, nat_tests, common_steps, gets)

pub returns-in-Some-Some-clause-kept : goal.returns-in-Some-Some-clause-kept
returns-in-Some-Some-clause-kept c = grind (arith, nat_tests, common_steps, gets)
