use Rattle.std.proofs.Common.{subst, sym}
use Rattle.plan_table.proofs.Order.{Contains-nil}
use Rattle.where_index.specs.ByCell.{AreWithin}
use Rattle.where_index.proofs.spots.Spots.new.Goals as goal

pub invariant_of-result : goal.invariant_of-result
invariant_of-result c = (c.new.ensures, subst AreWithin (sym c.new-2.ensures.empty) (λ cell s h. absurd (Contains-nil s h)))
