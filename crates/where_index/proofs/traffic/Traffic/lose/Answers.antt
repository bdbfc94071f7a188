use Rattle.where_index.proofs.Changes.{clears}
use Rattle.where_index.proofs.Crowding.{leaves}
use Rattle.where_index.proofs.traffic.Traffic.lose.Goals as goal

pub returns-clause-set : goal.returns-clause-set
returns-clause-set c = λ f has is. record {
  stands = clears c.args.self.now.stands _ c.args.agent c.args.time c.args.leg f c.lose-2.ensures has.stands is;
  crowds = leaves f c.args.agent c.args.time c.args.leg is c.args.self.now.crowds _ c.leave.ensures has.crowds;
  flows = c.lose.ensures f has.flows is;
}
