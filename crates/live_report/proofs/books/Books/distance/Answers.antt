use Rattle.live_report.proofs.books.Books.distance.Goals as goal

pub returns-in-None : goal.returns-in-None
returns-in-None c = λ scene agent row are live aims inside.
    let was = rw (← c.self.view_is) at are in
    let held = (was.prices.goals c.args.goal).1 (agent, record { row = row; live = live; aims = aims }) in
    absurd (c.in-None.ensures.none (rw c.fields.ensures held))
