use Rattle.mapf_rules.proofs.Adds.{lists_added}
use Rattle.mapf_rules.proofs.plain.entries_of_pair.Goals as goal

pub returns : goal.returns
returns c = lists_added _ _ _ (rw c.new-entries.ensures.items at c.in_ok-add_pair.ensures) c.sorted.ensures
