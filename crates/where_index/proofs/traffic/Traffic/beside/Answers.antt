use Rattle.where_index.specs.Spots.{spot}
use Rattle.where_index.proofs.traffic.Traffic.beside.Goals as goal

pub returns-in-Some : goal.returns-in-Some
returns-in-Some c = λ f has.
    let step = c.in-Some.step.now in
    let one = c.in-Some.ensures.some in
    ((has c.args.cell (spot c.args.time step.agent step.to)).0 one.0, one.1)

pub returns-in-None : goal.returns-in-None
returns-in-None c = λ f has m h. c.in-None.ensures.none m ((has c.args.cell (spot c.args.time m.agent m.to)).1 h.0, h.1)
