use Rattle.std.proofs.Common.{◌≡◌, Some, ap, sym, ◌∙◌, refl, subst}
use Rattle.std.specs.Option.{option_copied_mut, IsSome}
use Rattle.plan_table.specs.Plans.{row_of}
use Rattle.plan_table.specs.declared.plans.Row.{Row}
use Rattle.cost_ledger.proofs.RowSums.{changes, row_of_lookup, sum_set, by_agent_sorted}
use Rattle.cost_ledger.proofs.rows.Rows.aim.Goals as goal

pub returns-in_default-clause-none : goal.returns-in_default-clause-none
returns-in_default-clause-none c =
    let looked = sym c.get_mut.ensures.value ∙ ap option_copied_mut c.in_default.is in
    (rw (← c.self.view_is) (sym (row_of_lookup _ c.args.agent) ∙ looked), rw c.get_mut.follows.holds-at-none c.self.view_is)

pub returns-in_default-clause-by_agent : goal.returns-in_default-clause-by_agent
returns-in_default-clause-by_agent c = rw c.get_mut.follows.holds-at-none (by_agent_sorted _ c.get_mut.ensures.ordered)

pub returns-clause-some : goal.returns-clause-some
returns-clause-some c =
    let after : Row = record { goal = c.args.goal; plan = c.in-Some.row.now.plan } in
    let h = c.get_mut.follows.holds after in
    let looked = sym c.get_mut.ensures.value ∙ ap option_copied_mut c.in-Some.is in
    let was : row_of c.args.self.now c.args.agent ≡ Some c.in-Some.row.now = rw (← c.self.view_is) (sym (row_of_lookup _ c.args.agent) ∙ looked) in (
      c.in-Some.row.now,
      record {
        was = was;
        now = rw (← c.self.view_is) (changes _ _ _ _ (h.3 (subst IsSome (sym looked) refl)).0);
        sums = λ number. rw (h.0, ← c.self.view_is) (sum_set number c.args.agent c.in-Some.row.now _ after (rw c.self.view_is was));
      },
      c.elsewhere-before.ensures,
      c.elsewhere.ensures,
    )

pub returns-clause-by_agent : goal.returns-clause-by_agent
returns-clause-by_agent c = let h = c.get_mut.follows.holds (record { goal = c.args.goal; plan = c.in-Some.row.now.plan }) in by_agent_sorted _ h.4
