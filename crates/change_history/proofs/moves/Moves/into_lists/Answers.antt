use Rattle.std.proofs.Common.{sym, subst, ◌∙◌}
use Rattle.mapf_rules.proofs.Orders.{pairs_ascend}
use Rattle.change_history.specs.Moved.{Ascend}
use Rattle.change_history.proofs.moves.Moves.into_lists.Goals as goal

pub returns-clause-ascend : goal.returns-clause-ascend
returns-clause-ascend g c = (
  subst (Ascend g.T.Ord.cmp) (sym c.in_ok-came.ensures.all) (pairs_ascend g.T.Ord.cmp _ c.in_ok-came.ensures.ordered),
  subst (Ascend g.T.Ord.cmp) (sym c.in_ok-gone.ensures.all) (pairs_ascend g.T.Ord.cmp _ c.in_ok-gone.ensures.ordered),
)
