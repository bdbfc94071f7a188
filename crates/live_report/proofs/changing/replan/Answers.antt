use Rattle.std.proofs.Common.{◌≡◌, Some, refl, sym, ap, subst, ◌∙◌}
use Rattle.std.proofs.lemmas.Result.{IfOk-weaker}
use Rattle.scene_edits.specs.Formers.{as_row}
use Rattle.live_report.specs.Prices as priced
use Rattle.live_report.proofs.Rows.{unchanged}
use Rattle.live_report.proofs.changing.replan.Goals as goal

pub returns-then-is_same_plan : goal.returns-then-is_same_plan
returns-then-is_same_plan c = λ rows are has.
    let same : c.args.old.now.plan.now ≡ c.args.row.now.plan = c.if-is_same_plan.ensures.0 refl in
    let now : rows c.args.agent ≡ Some (record { goal = c.args.old.now.goal; plan = c.args.row.now.plan }) = has ∙ ap (λ p. Some (record { goal = c.args.old.now.goal; plan = p })) same in
    subst (λ (r : priced.Rows). priced.AreOfRows c.args.grid.now r c.args.prices) (sym (unchanged rows c.args.agent _ now)) are

pub returns : goal.returns
returns c = IfOk-weaker c.follow_plan.result _ _ (λ books kept rows are has. kept rows are (record { row = as_row c.args.old.now; live = has; aims = refl })) c.follow_plan.ensures.kept
