use Rattle.desk_report.proofs.describe.plain_report.Goals as goal

pub returns : goal.returns
returns c bounds =
    let made = c.in_ok-report.ensures in
    record {
      conflicts = rw made.conflicts c.in_ok-conflicts.ensures;
      visits = rw made.visits c.in_ok-visits.ensures;
      lines = rw (made.lines, c.new.ensures) (c.in_ok-lines.ensures.lines bounds);
      sum = made.sum;
      makespan = made.makespan;
      bounds = rw made.lines made.bounds;
      total_gap = rw made.lines made.total_gap;
    }
