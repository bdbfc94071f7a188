use Rattle.std.proofs.Common.{length, ap, arith}
use Rattle.plan_table.proofs.Order.{EachOf-length}
use Rattle.desk_report.specs.Report.{IsLine}
use Rattle.desk_audit.proofs.Merging.{all_visits}
use Rattle.desk_audit.proofs.Tiles.{all_entries, range_all}
use Rattle.desk_audit.proofs.audits.report_of.Goals as goal

pub with_totals-requires : goal.with_totals-requires
with_totals-requires c =
    let long = EachOf-length (IsLine c.args.scene.now.grid) c.args.scene.now.rows c.args.whole.lines.items (rw range_all at c.requires.lines) in
    rw c.new-2.ensures (omega (arith, c.count-agents.ensures.is, c.count-agents.ensures.few, ap length c.plans-plans.ensures.rows))

pub returns : goal.returns
returns c =
    let scene = c.args.scene.now in
    let made = c.in_ok-report.ensures in
    record {
      conflicts = rw made.conflicts (all_entries scene.mode scene.rows c.args.whole.conflicts.items _ c.requires.entries c.in-Ok.ensures);
      visits = rw (made.visits, c.new.ensures) (all_visits scene.grid scene.rows c.args.whole.visits.items c.requires.visits);
      lines = rw (made.lines, c.new-2.ensures) (rw range_all at c.requires.lines);
      sum = rw c.plans-plans.ensures.rows at made.sum;
      makespan = rw c.plans-plans.ensures.rows at made.makespan;
      bounds = rw made.lines made.bounds;
      total_gap = rw made.lines made.total_gap;
    }
