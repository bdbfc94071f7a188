use Rattle.std.proofs.Common.{◌≡◌, List, ◌∷◌, [], ℕ, rules, ap, arith}
use Rattle.std.specs.Option.{IsSomeAnd}
use Rattle.std.proofs.lemmas.Bool.Decides.{nat_tests}
use Rattle.std.proofs.lemmas.Grind.{common_steps}
use Rattle.std.proofs.lemmas.Option.{gets}
use Rattle.std.proofs.lemmas.Result.{IfOk-weaker}
use Rattle.plan_table.specs.Plans.{row_of}
use Rattle.plan_table.specs.declared.plans.Row.{Row}
use Rattle.scene_edits.specs.Board.{scene_of}
use Rattle.scene_edits.specs.declared.changes.Change.{Change}
use Rattle.scene_edits.specs.declared.changes.Change.TheVariants.{Moved}
use Rattle.scene_edits.proofs.RowEdits.{with_row_is, without_row_is}
use Rattle.scene_edits.proofs.AllowedEdits.{changed}
use Rattle.scene_edits.proofs.Turning.{plan_before}
use Rattle.scene_edits.proofs.boards.Board.turn.Goals as goal

pub returns-in-Some-clause-undone : goal.returns-in-Some-clause-undone
returns-in-Some-clause-undone c = rw c.in-Added.is (ap (λ (rows : List (ℕ × Row)). record (scene_of c.args.self.now) { rows = rows }) (without_row_is c.args.self.now.plans.rows c.remove.new.self.rows c.in-Added.agent c.remove.ensures.by_agent.0 c.remove.ensures.by_agent.1 c.remove.ensures.gone))

pub returns-in-Dropped-clause-undone : goal.returns-in-Dropped-clause-undone
returns-in-Dropped-clause-undone c = rw c.in-Dropped.is (ap (λ (rows : List (ℕ × Row)). record (scene_of c.args.self.now) { rows = rows }) (with_row_is c.args.self.now.plans.rows c.insert.new.self.rows c.in-Dropped.agent c.in-Dropped.row c.insert.ensures.by_agent.0 c.insert.ensures.by_agent.1 c.insert.ensures.row))

pub returns-in-Aimed-clause-undone : goal.returns-in-Aimed-clause-undone
returns-in-Aimed-clause-undone c = rw c.in-Aimed.is (changed (scene_of c.args.self.now) c.in-Aimed.agent (λ row. record row { goal = c.in-Aimed.old_goal }) c.set_goal-goal.new.self.rows (search rules) c.set_goal-goal.ensures.by_agent.0 c.set_goal-goal.ensures.by_agent.1 c.set_goal-goal.ensures.changed)

pub returns-in-Moved-clause-undone : goal.returns-in-Moved-clause-undone
returns-in-Moved-clause-undone c = rw c.in-Moved.is (changed (scene_of c.args.self.now) c.in-Moved.agent (λ row. record row { plan = c.in-Moved.old_plan }) c.set_plan-plan.new.self.rows (search rules) c.set_plan-plan.ensures.by_agent.0 c.set_plan-plan.ensures.by_agent.1 c.set_plan-plan.ensures.changed)

pub returns-in-Moved-clause-told : goal.returns-in-Moved-clause-told
returns-in-Moved-clause-told c =
    let turn : List Change = Moved c.in-Moved.agent c.set_plan-plan.result c.in-Moved.since ∷ [] in
    let told : IsSomeAnd (row_of c.args.self.now.plans.rows c.in-Moved.agent) (λ (row : Row). turn ≡ Moved c.in-Moved.agent row.plan c.in-Moved.since ∷ []) = plan_before c.args.self.now.plans.rows c.in-Moved.agent c.set_plan-plan.result c.in-Moved.since (search rules) c.set_plan-plan.ensures.before in
    rw c.in-Moved.is (IfOk-weaker c.told-in-Moved.result _ _ (λ v items. (turn, told, items)) c.told-in-Moved.ensures)

pub returns-in-Flipped-clause-undone : goal.returns-in-Flipped-clause-undone
returns-in-Flipped-clause-undone c = grind (arith, nat_tests, common_steps, gets)
