use Rattle.std.proofs.lemmas.Result.{on_ok_weaker}
use Rattle.where_index.proofs.Changes.{fills}
use Rattle.where_index.proofs.traffic.Traffic.add.Goals as goal

pub returns-clause-set : goal.returns-clause-set
returns-clause-set c = on_ok_weaker c.add-2.result (λ gains f has is. record {
  stands = fills c.args.self.now.stands c.add-2.new.self c.args.agent c.args.time c.args.leg f gains has.stands is;
  crowds = c.in_ok-crowd.ensures f has.crowds is (c.beside-beside.ensures f has.stands);
  flows = c.in_ok-add.ensures f has.flows is;
}) c.add-2.ensures
