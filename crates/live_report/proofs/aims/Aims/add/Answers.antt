use Rattle.std.proofs.Common.{◌≤◌, inl, inr, subst, sym, arith}
use Rattle.grid_cells.specs.declared.numbers.TheConstants.{MOST_AGENT}
use Rattle.plan_table.proofs.Sets.{set_gains}
use Rattle.live_report.specs.declared.aims.Aim.{Aim}
use Rattle.live_report.proofs.AimOrder.{aim_total, aim_exact}
use Rattle.live_report.proofs.aims.Aims.add.Goals as goal

pub returns : goal.returns
returns c = rw (← c.self.view_is) (set_gains aim_total aim_exact _ _ _ c.in_ok-insert.ensures.updates)

pub invariant_of-self : goal.invariant_of-self
invariant_of-self c = λ a h. c.self.invariant a (rw (← c.in_err-insert.ensures.err) h)

pub invariant_of-self-2 : goal.invariant_of-self-2
invariant_of-self-2 c = λ a h.
    elim ((set_gains aim_total aim_exact _ _ _ c.in_ok-insert.ensures.updates a).0 h) [
      | inl old ↦ c.self.invariant a old
      | inr is ↦ subst (λ (v : Aim). v.agent ≤ MOST_AGENT) (sym is) (omega arith)
    ]
