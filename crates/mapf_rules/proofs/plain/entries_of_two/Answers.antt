use Rattle.std.proofs.Common.{arith}
use Rattle.mapf_rules.proofs.Adds.{adds_as, adds_both, lists_added}
use Rattle.mapf_rules.proofs.plain.entries_of_two.Goals as goal

pub returns : goal.returns
returns c =
    let both = adds_both (rw c.new-entries.ensures.items at c.in_ok-add_pair.ensures) c.in_ok-add_pair-2.ensures in
    lists_added _ _ _ (adds_as both (λ e. grind arith)) c.sorted.ensures
