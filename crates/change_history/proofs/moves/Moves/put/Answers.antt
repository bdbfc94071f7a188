use Rattle.std.proofs.Common.{subst}
use Rattle.plan_table.proofs.Sets.{set_gains, set_fresh}
use Rattle.change_history.specs.Moved.{Comes}
use Rattle.change_history.proofs.moves.Moves.put.Goals as goal

pub returns-in_default-clause-set : goal.returns-in_default-clause-set
returns-in_default-clause-set g c = set_gains g.met.T.Ord.total c.told_apart.ensures _ _ _ c.in_ok-insert.ensures.updates

pub returns-then-branch-clause-set : goal.returns-then-branch-clause-set
returns-then-branch-clause-set g c = set_gains g.met.T.Ord.total c.told_apart.ensures _ _ _ c.in_ok-insert-2.ensures.updates

pub returns-then-branch-clause-follows : goal.returns-then-branch-clause-follows
returns-then-branch-clause-follows g c =
    let total = g.met.T.Ord.total in
    let exact = c.told_apart.ensures in
    let same = c.in-Some.ensures.copy in
    let comes : Comes c.args.self.now c.args.item c.come.new.self = subst (λ m. Comes m c.args.item c.come.new.self) same.1 (subst (λ k. Comes c.copy_of.new.self k c.come.new.self) same.0 c.come.ensures) in
    comes _ _ (set_fresh total exact _ _ _ c.in_ok-insert-2.ensures.added c.if-branch.true) (set_gains total exact _ _ _ c.in_ok-insert-2.ensures.updates)

pub returns-else-branch-clause-set : goal.returns-else-branch-clause-set
returns-else-branch-clause-set g c = set_gains g.met.T.Ord.total c.told_apart.ensures _ _ _ c.in_ok-insert-2.ensures.updates
