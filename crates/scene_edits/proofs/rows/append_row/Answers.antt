use Rattle.std.proofs.Common.{ℕ, List, Some, subst}
use Rattle.plan_table.specs.Plans.{IsByAgent, ChangesRow}
use Rattle.plan_table.specs.declared.plans.Row.{Row}
use Rattle.scene_edits.proofs.RowEnds.{absent-end, appended}
use Rattle.scene_edits.proofs.rows.append_row.Goals as goal

pub insert-requires-clause-absent : goal.insert-requires-clause-absent
insert-requires-clause-absent c = rw c.make_room.ensures.rows (absent-end c.args.plans.now.rows c.args.agent c.requires.above)

pub returns : goal.returns
returns c = appended c.args.plans.now.rows c.insert.new.self.rows c.args.agent c.args.row c.requires.above (subst IsByAgent c.make_room.ensures.rows c.insert.ensures.by_agent.0) c.insert.ensures.by_agent.1 (subst (λ (rows : List (ℕ × Row)). ChangesRow rows c.insert.new.self.rows c.args.agent (Some c.args.row)) c.make_room.ensures.rows c.insert.ensures.row)
