use Rattle.std.proofs.Common.{◌≡◌, ◌∷◌, [], List, ℕ, Some, subst, rules, arith}
use Rattle.plan_table.specs.Plans.{ChangesRow}
use Rattle.plan_table.specs.declared.plans.Row.{Row}
use Rattle.grid_cells.specs.Cell.{Point}
use Rattle.scene_edits.specs.Board.{scene_of}
use Rattle.scene_edits.proofs.AllowedEdits.{added}
use Rattle.scene_edits.proofs.boards.Board.add.Goals as goal

pub returns-clause-applied : goal.returns-clause-applied
returns-clause-applied c =
    let plan : c.in_ok-plan.plan ≡ c.args.start ∷ [] = search rules in
    let changes : ChangesRow c.args.self.now.plans.rows c.insert.new.self.rows c.args.agent (Some (record { goal = c.args.goal; plan = c.args.start ∷ [] })) =
    subst (λ (rows : List (ℕ × Row)). ChangesRow rows c.insert.new.self.rows c.args.agent (Some (record { goal = c.args.goal; plan = c.args.start ∷ [] }))) c.make_room.ensures.rows
    (subst (λ (plan : List Point). ChangesRow c.make_room.new.self.rows c.insert.new.self.rows c.args.agent (Some (record { goal = c.args.goal; plan = plan }))) plan c.insert.ensures.row) in
    added (scene_of c.args.self.now) c.args.agent c.args.start c.args.goal c.insert.new.self.rows (search rules) (omega arith) (search rules) c.count.ensures.by_agent c.insert.ensures.by_agent.1 changes
