use Rattle.cost_ledger.proofs.Keeping.{visits_flipped}
use Rattle.cost_ledger.proofs.ledger.CostLedger.flip_at.Goals as goal

pub returns-in-Ok-clause-stands : goal.returns-in-Ok-clause-stands
returns-in-Ok-clause-stands c = λ old new through stands but at.
    visits_flipped old new c.args.grid.now c.self.inside.rows c.args.visits.now c.args.cell c.self.inside.blocked.keys c.set_blocked.new.blocked.keys
    (rw (← c.self.view_is) at through) but at c.len-count.ensures.ordered (rw (← c.self.view_is) at stands)
    c.is_closed.result c.is_closed.ensures c.in-Ok.ensures.adds c.in-Ok.ensures.takes
