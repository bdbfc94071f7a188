use Rattle.std.proofs.Common.{◌≡◌, ℕ, ◌∙◌, arith}
use Rattle.plan_table.specs.declared.plans.Row.{Row}
use Rattle.plan_table.proofs.Order.{EachOf-push}
use Rattle.desk_report.specs.Report.{IsLine}
use Rattle.desk_audit.proofs.Bounding.{range_push}
use Rattle.desk_audit.proofs.lines.lines_of.Goals as goal

pub loop-rank-preserved : goal.loop-rank-preserved
loop-rank-preserved c =
    let entry : ℕ × Row = (c.entry_at-entry.result.0, c.entry_at-entry.result.1.now) in
    record {
      long = c.in_ok-bound.ensures.len ∙ c.loop-rank.invariant.long;
      bounds = c.in_ok-bound.ensures.bounds;
      room = c.in_ok-bound.ensures.room;
      lines = rw (c.in_ok-push.ensures.items, range_push c.args.plans.now.rows c.args.from c.loop-rank.rank entry (omega arith) c.entry_at-entry.ensures)
          (EachOf-push (IsLine c.args.grid.now) _ _ entry c.line.result c.loop-rank.invariant.lines (c.line.ensures (c.in_ok-bound.ensures.bound entry c.entry_at-entry.ensures)));
    }

pub returns : goal.returns
returns c =
    let end : c.loop-rank.rank ≡ c.args.to = omega arith in
    rw (← end) c.loop-rank.invariant.lines
