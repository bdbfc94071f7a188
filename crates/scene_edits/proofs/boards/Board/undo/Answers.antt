use Rattle.std.proofs.Common.{List, ℕ, rules, ap, arith}
use Rattle.std.proofs.lemmas.Bool.Decides.{nat_tests}
use Rattle.std.proofs.lemmas.Grind.{common_steps}
use Rattle.std.proofs.lemmas.Option.{gets}
use Rattle.plan_table.specs.declared.plans.Row.{Row}
use Rattle.scene_edits.specs.Board.{scene_of}
use Rattle.scene_edits.proofs.RowEdits.{with_row_is, without_row_is}
use Rattle.scene_edits.proofs.AllowedEdits.{changed}
use Rattle.scene_edits.proofs.boards.Board.undo.Goals as goal

pub returns-in-Added-clause-undone : goal.returns-in-Added-clause-undone
returns-in-Added-clause-undone c = rw c.in-Added.is (ap (λ (rows : List (ℕ × Row)). record (scene_of c.args.self.now) { rows = rows }) (without_row_is c.args.self.now.plans.rows c.remove-row.new.self.rows c.in-Added.agent c.remove-row.ensures.by_agent.0 c.remove-row.ensures.by_agent.1 c.remove-row.ensures.gone))

pub returns-in-Dropped-clause-undone : goal.returns-in-Dropped-clause-undone
returns-in-Dropped-clause-undone c = rw c.in-Dropped.is (ap (λ (rows : List (ℕ × Row)). record (scene_of c.args.self.now) { rows = rows }) (with_row_is c.args.self.now.plans.rows c.insert.new.self.rows c.in-Dropped.agent c.in-Dropped.row c.insert.ensures.by_agent.0 c.insert.ensures.by_agent.1 c.insert.ensures.row))

pub returns-in-Aimed-clause-undone : goal.returns-in-Aimed-clause-undone
returns-in-Aimed-clause-undone c = rw c.in-Aimed.is (changed (scene_of c.args.self.now) c.in-Aimed.agent (λ row. record row { goal = c.in-Aimed.old_goal }) c.set_goal-goal.new.self.rows (search rules) c.set_goal-goal.ensures.by_agent.0 c.set_goal-goal.ensures.by_agent.1 c.set_goal-goal.ensures.changed)

pub returns-in-Moved-clause-undone : goal.returns-in-Moved-clause-undone
returns-in-Moved-clause-undone c = rw c.in-Moved.is (changed (scene_of c.args.self.now) c.in-Moved.agent (λ row. record row { plan = c.in-Moved.old_plan }) c.set_plan-plan.new.self.rows (search rules) c.set_plan-plan.ensures.by_agent.0 c.set_plan-plan.ensures.by_agent.1 c.set_plan-plan.ensures.changed)

pub returns-in-Flipped-clause-undone : goal.returns-in-Flipped-clause-undone
returns-in-Flipped-clause-undone c = grind (arith, nat_tests, common_steps, gets)
