use Rattle.where_index.proofs.Crowding.{dropped, kept}
use Rattle.where_index.proofs.crowds.Crowds.leave.Goals as goal

pub returns-then-lose_in : goal.returns-then-lose_in
returns-then-lose_in c = rw (← c.self.view_is) (dropped _ _ _ c.args.cell c.args.time c.args.agent c.lose_in.ensures.lost (rw c.if-lose_in.true at c.lose_in.ensures.few) c.drop_list.ensures)

pub returns-else-lose_in : goal.returns-else-lose_in
returns-else-lose_in c = rw (← c.self.view_is) (kept _ _ c.args.cell c.args.time c.args.agent c.lose_in.ensures.lost)
