use Rattle.std.proofs.Common.{sym, arith}
use Rattle.std.proofs.lemmas.Bool.{eqb-true}
use Rattle.plan_table.specs.Route.{tracks_of}
use Rattle.desk_audit.specs.Seeking.{Leads}
use Rattle.desk_audit.proofs.Finding.{finds_then, finds_none}
use Rattle.desk_audit.proofs.Near.{leads_splits, leads_some}
use Rattle.desk_audit.proofs.entries.add_ahead.Goals as goal
use Rattle.desk_audit.proofs.entries.add_ahead.Goals.{then-not-is_empty+in_ok-add_met+in_ok-add_ring, else-not-is_empty}

pub returns : goal.returns
returns c =
    let fleet = tracks_of c.args.mode c.args.plans.now.rows in
    elim c.if-not-is_empty.branch [
      | then-not-is_empty+in_ok-add_met+in_ok-add_ring w ↦
          rw w.entries-is (finds_then fleet c.args.agent _ _ _ _ _
          (Leads fleet c.args.time c.args.agent c.args.cell) w.in_ok-add_met.ensures w.in_ok-add_ring.ensures
          (λ e stands leads. leads_splits fleet c.args.time c.args.agent c.args.cell w.deref.result.now
          (rw w.deref.ensures.value c.in_ok-leaders.ensures) e leads))
      | else-not-is_empty w ↦
          rw w.entries-is (finds_none fleet c.args.agent c.args.entries.now.items (Leads fleet c.args.time c.args.agent c.args.cell)
          (λ e stands leads.
          let some = leads_some fleet c.args.time c.args.agent c.args.cell c.in_ok-leaders.leaders.items c.in_ok-leaders.ensures e leads in
          omega (arith, eqb-true _ _ (sym (w.if-not-is_empty.ensures)), c.in_ok-leaders.leaders.ok)))
    ]
