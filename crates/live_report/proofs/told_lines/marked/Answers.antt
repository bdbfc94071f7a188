use Rattle.std.proofs.Common.{◌≡◌, ℕ, Some, sym, ap, ◌∙◌, arith}
use Rattle.std.specs.Prelude.{IsTrue, not, slice_get, ◌↔◌}
use Rattle.std.proofs.lemmas.List.{take_all, take_more, length_push}
use Rattle.std.proofs.lemmas.Option.{slice_get-get_or, slice_get_within, get_or_from_slice_get}
use Rattle.plan_table.specs.Plans.{row_of}
use Rattle.plan_table.specs.declared.plans.Row.{Row}
use Rattle.plan_table.proofs.Fleets.{row_here}
use Rattle.plan_table.proofs.Order.{EachOf-push, EachOf-length}
use Rattle.mapf_rules.specs.Visits.{IsUnblocked}
use Rattle.desk_report.specs.Report.{IsLine}
use Rattle.desk_report.specs.declared.reports.AgentLine.{AgentLine}
use Rattle.live_report.specs.Lines.{IsOpenLine}
use Rattle.live_report.proofs.Blocking.{unblocked_where, before_agent, passed_more}
use Rattle.live_report.proofs.Telling.{EachOf-before}
use Rattle.live_report.proofs.told_lines.marked.Goals as goal

pub loop-line-preserved : goal.loop-line-preserved
loop-line-preserved c =
    let lines = c.args.lines.now in
    let visits = c.args.visits.now in
    let rank = c.loop-line.line-index in
    let next = c.loop-line.next in
    let place = c.first_from-next.result in
    let line : AgentLine = c.line-item.result in
    record {
      lines = λ grid rows known are.
          let was = c.loop-line.invariant.lines grid rows known are in
          let here : slice_get lines rank ≡ Some line = rw (← c.line-item.is) at (slice_get-get_or lines rank line c.loop-line-test.true) in
          let found = EachOf-before (IsOpenLine grid) rows lines are rank line here in
          let entry : ℕ × Row = found.0 in
          let at : slice_get rows rank ≡ Some (line.agent, entry.1) = found.1 ∙ ap (λ (a : ℕ). Some (a, entry.1)) (sym found.2.agent) in
          let live : row_of rows line.agent ≡ Some entry.1 = (row_here rows known.by_agent rank line.agent entry.1 at).0 in
          let before = before_agent rows visits known.by_agent rank line.agent entry.1 at next place was.1 c.first_from-next.ensures.before in
          let unblocked : IsTrue (not c.is_of-unblocked.result) ↔ IsUnblocked grid entry.1.plan = unblocked_where grid rows visits known.are line.agent entry.1 live place before c.first_from-next.ensures.there c.is_of-unblocked.result c.is_of-unblocked.ensures in
          let read = get_or_from_slice_get rows rank entry entry found.1 in (
            rw (c.in_ok-push.ensures.items, take_more rows rank entry (slice_get_within rows rank entry found.1), read)
                (EachOf-push (IsLine grid) _ _ entry _ was.0 (c.told.ensures grid entry found.2 (known.on line.agent entry.1 live) unblocked)),
            passed_more rows visits known.by_agent rank line.agent entry.1 at next place was.1 c.first_from-next.ensures.before,
          );
      many = rw c.in_ok-push.ensures.items (omega (arith, length_push c.loop-line.all.items c.told.result, c.loop-line.invariant.many));
      within = c.first_from-next.ensures.within;
    }

pub returns-clause-lines : goal.returns-clause-lines
returns-clause-lines c = λ grid rows known are.
    let each = EachOf-length (IsOpenLine grid) rows c.args.lines.now are in
    rw (take_all c.loop-line.line-index rows (omega (arith, each))) at (c.loop-line.invariant.lines grid rows known are).0
