use Rattle.live_report.proofs.standing_lines.without_line.Goals as goal

pub returns : goal.returns
returns c = λ grid rows were. c.take.ensures grid rows (rw c.in_ok-lines.was at were)
