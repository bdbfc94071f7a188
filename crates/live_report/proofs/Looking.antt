-- What is looked at of an agent is what a report has of it.
use Rattle.std.proofs.Common.{◌≡◌, ◌⊎◌, inl, inr, ℕ, Bool, List, [], ◌∷◌, ◌++◌, length, Contains, Option, Some, None, IsTrue, refl, sym, ap, subst, ◌∙◌, arith}
use mathlib.Core.Logic.{◌↔◌}
use Rattle.std.proofs.lemmas.List.Elements.{Contains-append_left, Contains-append_right, Contains-append_cases}
use Rattle.std.specs.Prelude.{◌==◌}
use Rattle.std.proofs.lemmas.Bool.Decides.{nat_tests}
use Rattle.std.proofs.lemmas.Grind.{common_steps}
use Rattle.std.proofs.lemmas.Option.{same_Some}
use Rattle.grid_cells.specs.Grid.{Chart}
use Rattle.plan_table.specs.declared.plans.Row.{Row}
use Rattle.plan_table.proofs.Order.{Contains-cons_head}
use Rattle.plan_table.proofs.Sets.{push_iff}
use Rattle.cost_ledger.specs.Ledger.{Ledger}
use Rattle.mapf_rules.specs.Visits.{IsBlocked, IsUnblocked}
use Rattle.mapf_rules.specs.declared.visits.Visit.{Visit}
use Rattle.desk_report.specs.Report.{IsLine}
use Rattle.desk_report.specs.declared.reports.AgentLine.{AgentLine}
use Rattle.desk_report.proofs.Reporting.{IsLine-unique}
use Rattle.live_report.specs.Looks.{IsLineOf, IsVisitOf, AreCurrent}
use Rattle.live_report.specs.Prices.{Rows}

zero_test : (n : ℕ) (b : Bool) → b ≡ (n == 0) → IsTrue b ↔ (n ≡ 0)
zero_test n b e = grind (arith, nat_tests, common_steps)

module _ (grid : Chart) (rows : Rows) (lines : List AgentLine) (costs : Ledger) (now : AreCurrent grid rows lines costs) where
  -- the ledger's visits are the blocked ones of the rows
  pub visit_is : (visit : Visit) → Contains costs.visits visit ↔ IsVisitOf grid rows visit
  visit_is visit = (
    λ h. let is = (now.costs.exact visit).0 h in record { row = is.row; live = sym (now.rows visit.agent) ∙ is.live; blocked = is.blocked },
    λ is. (now.costs.exact visit).1 (record { row = is.row; live = now.rows visit.agent ∙ is.live; blocked = is.blocked }),
  )

  module _ (agent : ℕ) (visits : List Visit) (own : (visit : Visit) → Contains visits visit ↔ (Contains costs.visits visit × (visit.agent ≡ agent))) where
    own_is : (visit : Visit) → Contains visits visit ↔ ((visit.agent ≡ agent) × IsVisitOf grid rows visit)
    own_is visit = (
      λ h. let w = (own visit).0 h in (w.1, (visit_is visit).0 w.0),
      λ w. (own visit).1 ((visit_is visit).1 w.1, w.0),
    )

    pub visits_further : (old : List Visit) (visit : Visit) → Contains (old ++ visits) visit ↔ (Contains old visit ⊎ ((visit.agent ≡ agent) × IsVisitOf grid rows visit))
    visits_further old visit = (
      λ h. elim (Contains-append_cases old visits visit h) [ inl was ↦ inl was | inr more ↦ inr ((own_is visit).0 more) ],
      λ h. elim h [ inl was ↦ Contains-append_left old visits visit was | inr w ↦ Contains-append_right old visits visit ((own_is visit).1 w) ],
    )

    module _ (row : Row) (live : rows agent ≡ Some row) where
      -- the agent has no blocked visit exactly where none is found
      unblocked_if : (none : (visit : Visit) → Contains visits visit → ⊥) → IsUnblocked grid row.plan
      unblocked_if none time cell blocked =
          let visit : Visit = record { agent = agent; time = time; cell = cell } in
          none visit ((own_is visit).1 (refl, record { row = row; live = live; blocked = blocked }))

      blocked_if : (visit : Visit) → Contains visits visit → IsUnblocked grid row.plan → ⊥
      blocked_if visit h unblocked =
          let w = (own_is visit).0 h in
          let same : w.1.row ≡ row = same_Some w.1.row row (sym w.1.live ∙ ap rows w.0 ∙ live) in
          unblocked visit.time visit.cell (subst (λ (r : Row). IsBlocked grid r.plan visit.time visit.cell) same w.1.blocked)

      pub none_found : (empty : Bool) → empty ≡ (length visits == 0) → IsTrue empty ↔ IsUnblocked grid row.plan
      none_found empty is = let means = zero_test (length visits) empty is in (
        λ yes. unblocked_if (λ visit h. let none = means.0 yes in omega (arith, h.1, none)),
        λ unblocked. means.1 (no_length visits (λ visit h. blocked_if visit h unblocked)),
      )
        where
          no_length : (list : List Visit) → ((visit : Visit) → Contains list visit → ⊥) → length list ≡ 0
          no_length [] none = refl
          no_length (v ∷ list) none = absurd (none v (Contains-cons_head v list))

      pub lines_further : (old : List AgentLine) (line : AgentLine) → IsLine grid (agent, row) line → (other : AgentLine) → Contains (old ++ line ∷ []) other ↔ (Contains old other ⊎ ((other.agent ≡ agent) × IsLineOf grid rows other))
      lines_further old line is other =
          let more = push_iff old line other in (
            λ h. elim (more.0 h) [
              | inl was ↦ inl was
              | inr same ↦
                  let own_agent : other.agent ≡ agent = ap (λ (l : AgentLine). l.agent) same ∙ is.agent in
                  inr (
                    own_agent,
                    record {
                      row = row;
                      live = ap rows own_agent ∙ live;
                      is = subst (λ a. IsLine grid (a, row) other) (sym own_agent) (subst (IsLine grid (agent, row)) (sym same) is);
                    },
                  )
            ],
            λ h. more.1 (elim h [
              | inl was ↦ inl was
              | inr w ↦
                  let same : w.1.row ≡ row = same_Some w.1.row row (sym w.1.live ∙ ap rows w.0 ∙ live) in
                  inr (IsLine-unique grid (agent, row) other line (subst (λ (r : Row). IsLine grid (agent, r) other) same (subst (λ a. IsLine grid (a, w.1.row) other) w.0 w.1.is)) is)
            ]),
          )

    -- an agent that isn't there has no line
    pub no_line_further : rows agent ≡ None → (old : List AgentLine) (other : AgentLine) → Contains old other ↔ (Contains old other ⊎ ((other.agent ≡ agent) × IsLineOf grid rows other))
    no_line_further none old other = (
      λ h. inl h,
      λ h. elim h [ inl was ↦ was | inr w ↦ let no : None ≡ Some w.1.row = sym none ∙ ap rows (sym w.0) ∙ w.1.live in absurd (cc) ],
    )
