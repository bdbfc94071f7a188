use Rattle.std.proofs.Common.{◌∙◌}
use Rattle.conflict_ledger.proofs.KindOrder.{least_cycle}
use Rattle.conflict_ledger.proofs.least.least_of.Goals as goal

pub returns-in-Cycle : goal.returns-in-Cycle
returns-in-Cycle c = least_cycle c.args.kind c.new-time.result c.new-in-Cycle.result c.in-Cycle.is c.new-time.ensures (c.new-in-Cycle.ensures ∙ c.new.ensures.items)
