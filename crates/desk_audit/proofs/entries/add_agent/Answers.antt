use Rattle.std.proofs.Common.{◌≡◌, ◌+◌, Some, sym, ap, ◌∙◌, inl, inr, arith}
use Rattle.std.proofs.lemmas.Bool.{cases_lt}
use Rattle.std.proofs.lemmas.Option.{same_Some}
use Rattle.plan_table.proofs.Fleets.{row_here}
use Rattle.mapf_rules.specs.Naming.{time_of, first_agent}
use Rattle.desk_audit.proofs.Finding.{finds_then}
use Rattle.desk_audit.proofs.Places.{on_path, last_of_row, place_of_position, same_cell}
use Rattle.desk_audit.proofs.entries.add_agent.Goals as goal
use Rattle.desk_audit.proofs.entries.add_agent.Goals.{then-eq, else-eq}

pub add_step-requires-clause-here : goal.add_step-requires-clause-here
add_step-requires-clause-here c =
    let here = row_here _ c.count-agents.ensures.by_agent c.args.rank _ _ c.entry_at-entry.ensures in
    on_path c.args.mode c.args.plans.now.rows c.entry_at-entry.result.0 c.loop-time.time _ here.0 (omega (arith, c.last-end.ensures.is)) ∙ rw
    (← c.new.ensures) c.at-here.ensures

pub add_step-requires-clause-ahead : goal.add_step-requires-clause-ahead
add_step-requires-clause-ahead c cell there apart =
    let here = row_here _ c.count-agents.ensures.by_agent c.args.rank _ _ c.entry_at-entry.ensures in
    let next = place_of_position c.args.mode c.args.plans.now.rows c.entry_at-entry.result.0
    (c.loop-time.time + 1) cell c.entry_at-entry.result.1.now here.0 there in
    let cells : c.at-next.result ≡ cell = same_Some c.at-next.result cell (sym (rw (← c.new-in-loop-time.ensures) c.at-next.ensures) ∙ next) in
    elim c.if-eq.branch [
      | then-eq w ↦ absurd (apart (sym cells ∙ same_cell c.at-next.result c.at-here.result c.eq.result c.eq.ensures w.if-eq.true))
      | else-eq w ↦ w.ahead-is ∙ ap Some cells
    ]

pub add_rest-requires-clause-end : goal.add_rest-requires-clause-end
add_rest-requires-clause-end c =
    let here = row_here _ c.count-agents.ensures.by_agent c.args.rank _ _ c.entry_at-entry.ensures in
    c.last-end.ensures.is ∙ sym (last_of_row c.args.mode c.args.plans.now.rows c.entry_at-entry.result.0 _ here.0)

pub add_rest-requires-clause-there : goal.add_rest-requires-clause-there
add_rest-requires-clause-there c =
    let here = row_here _ c.count-agents.ensures.by_agent c.args.rank _ _ c.entry_at-entry.ensures in
    on_path c.args.mode c.args.plans.now.rows c.entry_at-entry.result.0 c.last-end.result _ here.0 (omega (arith, c.last-end.ensures.is)) ∙ rw
    (← c.new-2.ensures) c.at-cell.ensures

pub loop-time-preserved : goal.loop-time-preserved
loop-time-preserved c = finds_then _ _ _ _ _ _ _ _ c.loop-time.invariant c.in_ok-add_step.ensures
    (λ e stands named. elim (cases_lt (time_of e) c.loop-time.time) [ inl early ↦ inl (early, named.1) | inr late ↦ inr (omega (arith, named.0), named.1) ])

pub returns : goal.returns
returns c a at =
    let here = row_here _ c.count-agents.ensures.by_agent c.args.rank _ _ c.entry_at-entry.ensures in
    rw (same_Some c.entry_at-entry.result.0 a (sym here.1 ∙ at)) at (finds_then _ _ _ _ _ _ _
    (λ entry. first_agent entry ≡ c.entry_at-entry.result.0) c.loop-time.invariant c.in_ok-add_rest.ensures
    (λ e stands named. elim (cases_lt (time_of e) c.loop-time.time) [ inl early ↦ inl (early, named) | inr late ↦ inr (omega arith, named) ]))
