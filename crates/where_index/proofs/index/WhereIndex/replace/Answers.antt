use Rattle.std.proofs.Common.{Some, arith}
use Rattle.where_index.proofs.Standing.{stands_next}
use Rattle.where_index.proofs.index.WhereIndex.replace.Goals as goal

pub returns-clause-stands : goal.returns-clause-stands
returns-clause-stands c = λ was had fleet has is.
    let g = rw had at c.in_ok-count.ensures in
    stands_next fleet c.args.agent was (Some c.args.new.now) is _ _ _ (rw (← c.self.view_is) at has) g.traffic g.tails c.in_ok-insert.ensures.updates.0 c.requires.end
    (omega arith) (omega (arith, c.requires.end.last))
