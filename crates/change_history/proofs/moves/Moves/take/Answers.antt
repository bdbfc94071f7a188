use Rattle.std.proofs.Common.{subst}
use Rattle.plan_table.proofs.Sets.{set_loses}
use Rattle.change_history.specs.Moved.{Goes}
use Rattle.change_history.proofs.Telling.{set_held}
use Rattle.change_history.proofs.moves.Moves.take.Goals as goal

pub returns-in-Some-clause-set : goal.returns-in-Some-clause-set
returns-in-Some-clause-set g c = set_loses g.met.T.Ord.total c.told_apart.ensures _ _ _ c.remove.ensures.updates

pub returns-in-Some-clause-follows : goal.returns-in-Some-clause-follows
returns-in-Some-clause-follows g c =
    let total = g.met.T.Ord.total in
    let exact = c.told_apart.ensures in
    let same = c.in-Some.ensures.copy in
    let goes : Goes c.args.self.now c.args.item.now c.go.new.self = subst (λ m. Goes m c.args.item.now c.go.new.self) same.1 (subst (λ k. Goes c.copy_of.new.self k c.go.new.self) same.0 c.go.ensures) in
    goes _ _ (set_held total exact _ _ _ c.remove.ensures.test c.if-not-remove.false) (set_loses total exact _ _ _ c.remove.ensures.updates)

pub returns-in_default-clause-set : goal.returns-in_default-clause-set
returns-in_default-clause-set g c = set_loses g.met.T.Ord.total c.told_apart.ensures _ _ _ c.remove.ensures.updates
