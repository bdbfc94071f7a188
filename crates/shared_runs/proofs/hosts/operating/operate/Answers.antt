use Rattle.std.proofs.Common.{refl}
use Rattle.shared_runs.proofs.Sitting.{as_promised}
use Rattle.shared_runs.proofs.hosts.operating.operate.Goals as goal
use Rattle.shared_runs.proofs.hosts.operating.operate.Goals.{in-Ok, in-Err}

pub returns : goal.returns
returns g c =
    elim c.match-sitting.branch [
      | in-Ok w ↦ as_promised c.args.desk.now _ (g.S.Seats.inputs c.args.seats.now 0) _ c.args.first _ c.match-sitting.pass w.join.result
          w.in-Ok.ensures.begun (λ i. g.S.Seats.inputs (w.in-Ok.ensures.seated.0 i) (w.in-Ok.ensures.seated.1 i)) w.in-Ok.ensures.before w.pass-is w.join.ensures
      | in-Err w ↦ as_promised c.args.desk.now _ (g.S.Seats.inputs c.args.seats.now 0) _ c.args.first _ c.match-sitting.pass w.in-Err.missed refl refl refl w.pass-is w.in-Err.ensures.missed
    ]
