use Rattle.where_index.proofs.records.change_records.Goals as goal

pub returns-clause-traffic : goal.returns-clause-traffic
returns-clause-traffic c = λ f has agree.
    let g = c.in_ok-stepped.ensures.set f has agree in
    record { stands = g.stands; crowds = g.crowds; flows = g.flows }

pub returns-clause-tails : goal.returns-clause-tails
returns-clause-tails c = rw c.in_ok-stepped.ensures.tails at c.in_ok-rested.ensures.set
