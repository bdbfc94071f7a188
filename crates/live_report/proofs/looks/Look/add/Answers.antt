use Rattle.live_report.proofs.Looking.{visits_further, none_found, lines_further, no_line_further}
use Rattle.live_report.proofs.looks.Look.add.Goals as goal

pub returns-in_default : goal.returns-in_default
returns-in_default c = λ grid rows now. record {
  lines = no_line_further grid rows c.args.lines.now c.args.costs.now now c.args.agent _ c.in_ok-found.ensures (c.in_default.ensures grid rows now.lines) c.args.self.now.lines.items;
  visits = rw (c.in_ok-extend_from_slice.ensures.items, c.items-own.ensures) (visits_further grid rows c.args.lines.now c.args.costs.now now c.args.agent _ c.in_ok-found.ensures c.args.self.now.visits.items);
}

pub returns : goal.returns
returns c = λ grid rows now.
    let open_ = c.in-Some.ensures grid rows now.lines in
    let empty = rw c.items-own.ensures at c.is_empty.ensures in
    let means = none_found grid rows c.args.lines.now c.args.costs.now now c.args.agent _ c.in_ok-found.ensures open_.0 open_.1 c.is_empty.result empty in
    let told = c.told.ensures grid (c.args.agent, open_.0) open_.2 (now.paths c.args.agent open_.0 open_.1) means in record {
      lines = rw c.in_ok-push.ensures.items (lines_further grid rows c.args.lines.now c.args.costs.now now c.args.agent _ c.in_ok-found.ensures open_.0 open_.1 c.args.self.now.lines.items c.told.result told);
      visits = rw (c.in_ok-extend_from_slice.ensures.items, c.items-own.ensures) (visits_further grid rows c.args.lines.now c.args.costs.now now c.args.agent _ c.in_ok-found.ensures c.args.self.now.visits.items);
    }
