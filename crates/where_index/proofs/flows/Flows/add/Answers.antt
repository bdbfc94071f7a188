use Rattle.std.proofs.lemmas.Result.{on_ok_weaker}
use Rattle.where_index.specs.declared.ways.Way.TheVariants.{Up, Left, Right, Down}
use Rattle.where_index.proofs.Flowing.{HasFlows-each}
use Rattle.where_index.proofs.flows.Flows.add.Goals as goal

pub returns : goal.returns
returns c = on_ok_weaker c.add_to-4.result
    (λ down f has is. HasFlows-each _ _ (c.in_ok-add_to.ensures f (has Up) is) (c.in_ok-add_to-2.ensures f (has Left) is) (c.in_ok-add_to-3.ensures f (has Right) is) (down f (has Down) is))
    c.add_to-4.ensures
