use Rattle.std.proofs.Common.{◌≡◌, [], arith}
use Rattle.goal_fields.proofs.AStarLemmas.{IsSeeking-rise, nil_of}
use Rattle.goal_fields.proofs.frontier.Frontier.rise.Goals as goal

pub returns-then-not-is_empty-clause-seeking : goal.returns-then-not-is_empty-clause-seeking
returns-then-not-is_empty-clause-seeking c ends s =
    let old = c.args.self.now in
    let none : old.now.items ≡ [] = nil_of old.now.items (grind (arith, c.is_empty.ensures, c.if-is_empty.true, old.now.ok)) in
    rw (c.swap.ensures.x_after, c.swap.ensures.y_after, none) (IsSeeking-rise old.grid ends old.stamps.items old.base old.away old.next.items (rw none at s))
