use Rattle.where_index.proofs.Positions.{occupants_exact}
use Rattle.where_index.proofs.index.WhereIndex.occupants.Goals as goal

pub returns : goal.returns
returns c = λ fleet has.
    let records = rw (← c.self.view_is) at has in
    let standing = rw c.number.ensures at c.from.ensures.all in
    occupants_exact c.self.inside.traffic.stands c.self.inside.traffic.tails fleet c.args.cell c.args.from records.traffic.stands records.tails _ standing c.from.ensures.rising c.from-2.ensures.all c.from-2.ensures.rising
