use Rattle.std.proofs.Common.{sym, ◌∙◌, inl, inr}
use Rattle.std.proofs.lemmas.Option.{same_Some, none-some}
use Rattle.plan_table.specs.Route.{tracks_of}
use Rattle.desk_audit.specs.Seeking.{IsFirstAt}
use Rattle.desk_audit.proofs.Finding.{finds_then, finds_as}
use Rattle.desk_audit.proofs.Near.{step_splits}
use Rattle.desk_audit.proofs.entries.add_step.Goals as goal
use Rattle.desk_audit.proofs.entries.add_step.Goals.{in-Some+in_ok-add_ahead, in_default}

pub returns : goal.returns
returns c =
    let fleet = tracks_of c.args.mode c.args.plans.now.rows in
    let splits = step_splits fleet c.args.time c.args.agent c.args.here c.args.ahead c.deref.result.now c.requires.here c.requires.ahead
    (rw c.deref.ensures.value c.in_ok-met.ensures) in
    elim c.match-ahead.branch [
      | in-Some+in_ok-add_ahead w ↦
          rw w.entries-is (finds_then fleet c.args.agent _ _ _ _ _ (IsFirstAt c.args.time c.args.agent) c.in_ok-add_met.ensures w.in_ok-add_ahead.ensures
          (λ e stands named. elim (splits e stands named) [
            | inl at ↦ inl at
            | inr on ↦ inr (rw (same_Some on.0 w.in-Some.cell (sym on.1 ∙ w.in-Some.is)) at on.2)
          ]))
      | in_default w ↦
          rw w.entries-is (finds_as fleet c.args.agent _ _ _ (IsFirstAt c.args.time c.args.agent)
          (λ e stands named. elim (splits e stands named) [ inl at ↦ at | inr on ↦ absurd (none-some on.0 (sym w.in_default.is ∙ on.1)) ])
          c.in_ok-add_met.ensures)
    ]
