use Rattle.std.proofs.Common.{rules, ℕ, arith, sym}
use Rattle.std.proofs.lemmas.Option.{get_or_from_slice_get}
use Rattle.plan_table.specs.declared.plans.Row.{Row}
use Rattle.desk_report.proofs.Fronts.{err-of}
use Rattle.desk_report.proofs.Lines.{front-item}
use Rattle.desk_pages.specs.SceneText.{row_text}
use Rattle.desk_pages.proofs.Rows.{appends-next}
use Rattle.desk_pages.proofs.courses.put_rows.Goals as goal

pub returns-in_err-put_row-clause-err : goal.returns-in_err-put_row-clause-err
returns-in_err-put_row-clause-err g c =
    let entry : ℕ × Row = (c.entry_at-entry.result.0, c.entry_at-entry.result.1.now) in
    let read = get_or_from_slice_get c.args.plans.now.rows c.loop-rank.rank entry entry c.entry_at-entry.ensures in
    err-of c.from_residual.result (front-item row_text c.args.plans.now.rows _ _ _ c.loop-rank.rank entry (sym read) (omega arith) c.loop-rank.invariant.out c.in_err-put_row.ensures.err)

pub loop-rank-preserved : goal.loop-rank-preserved
loop-rank-preserved g c =
    let entry : ℕ × Row = (c.entry_at-entry.result.0, c.entry_at-entry.result.1.now) in
    let read = get_or_from_slice_get c.args.plans.now.rows c.loop-rank.rank entry entry c.entry_at-entry.ensures in
    record {
      out = appends-next row_text c.args.plans.now.rows _ _ _ c.loop-rank.rank entry read (omega arith) c.loop-rank.invariant.out c.in_ok-put_row.ensures.ok;
      sound = search rules;
    }
