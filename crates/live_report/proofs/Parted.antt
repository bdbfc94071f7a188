-- What some agents' lines and visits tell of all.
use Rattle.std.proofs.Common.{◌≡◌, ◌⊎◌, inl, inr, ℕ, ◌<◌, List, Contains, Option, Some, None, slice_get, refl, sym, ap, subst, ◌∙◌, arith}
use mathlib.Core.Logic.{◌↔◌}
use Rattle.std.proofs.lemmas.Cmp.{nat_cmp_total}
use Rattle.std.proofs.lemmas.Map.Lookups.{exact_unsigned}
use Rattle.std.proofs.lemmas.Option.{same_Some, slice_get_within, slice_get-get_or, get_or_from_slice_get}
use Rattle.grid_cells.specs.Grid.{Chart}
use Rattle.plan_table.specs.Plans.{row_of, IsByAgent}
use Rattle.plan_table.specs.declared.plans.Row.{Row}
use Rattle.plan_table.proofs.Fleets.{rank_of, row_at_rank, row_here}
use Rattle.plan_table.proofs.Order.{EachOf-at}
use Rattle.std.specs.Option.{IsSome}
use Rattle.mapf_rules.specs.Visits.{AreVisits, IsBlocked}
use Rattle.mapf_rules.specs.declared.visits.Visit.{Visit}
use Rattle.desk_report.specs.Report.{IsLine, AreLines}
use Rattle.desk_report.specs.declared.reports.AgentLine.{AgentLine}
use Rattle.desk_report.proofs.Reporting.{IsLine-unique}
use Rattle.change_history.specs.Moved.{Moved, AreApart, Tell}
use Rattle.change_history.proofs.Telling.{in_or_not}
use Rattle.live_report.specs.Looks.{IsLineOf, IsVisitOf, IsLook}
use Rattle.live_report.specs.Prices.{Rows}
use Rattle.live_report.specs.Turnovers.{CoverChanges}
use Rattle.live_report.specs.declared.looks.Look.{Look}
use Rattle.live_report.proofs.Telling.{EachOf-before}

-- ---- a report's lists, element by element
pub line_listed : (grid : Chart) (rows : List (ℕ × Row)) (lines : List AgentLine) → IsByAgent rows → AreLines grid rows lines → (line : AgentLine) → Contains lines line ↔ IsLineOf grid (row_of rows) line
line_listed grid rows lines by_agent are line = (
  λ h.
      let there : slice_get lines h.0 ≡ Some line = slice_get-get_or lines h.0 line h.1 ∙ ap Some h.2 in
      let goes = EachOf-before (IsLine grid) rows lines are h.0 line there in
      let own : line.agent ≡ goes.0.0 = goes.2.agent in
      let live = (row_here rows by_agent h.0 goes.0.0 goes.0.1 goes.1).0 in
      record { row = goes.0.1; live = ap (row_of rows) own ∙ live; is = subst (λ a. IsLine grid (a, goes.0.1) line) (sym own) goes.2 },
  λ is.
      let ranked = rank_of rows line.agent (subst IsSome (sym is.live) refl) in
      let at = row_at_rank rows by_agent ranked.0 line.agent ranked.2 in
      let same : at.0 ≡ is.row = same_Some at.0 is.row (sym at.1 ∙ is.live) in
      let goes = EachOf-at (IsLine grid) rows lines are ranked.0 (line.agent, at.0) at.2 in
      let one : goes.0 ≡ line = IsLine-unique grid (line.agent, is.row) goes.0 line (subst (λ (r : Row). IsLine grid (line.agent, r) goes.0) same goes.2) is.is in
      (ranked.0, slice_get_within lines ranked.0 goes.0 goes.1, get_or_from_slice_get lines ranked.0 goes.0 line goes.1 ∙ one),
)

pub visit_listed : (grid : Chart) (rows : List (ℕ × Row)) (visits : List Visit) → AreVisits grid rows visits → (visit : Visit) → Contains visits visit ↔ IsVisitOf grid (row_of rows) visit
visit_listed grid rows visits are visit = (
  λ h. let is = (are.exact visit).0 h in record { row = is.row; live = is.live; blocked = is.blocked },
  λ is. (are.exact visit).1 (record { row = is.row; live = is.live; blocked = is.blocked }),
)

-- ---- a part of two lists beside which they are the same
module _ {X : Type 0} (agent_of : X → ℕ) (agents : List ℕ) (old new before after came gone : List X) (Old New : X → Type 0) where
  pub part_apart : ((x : X) → Contains old x ↔ Old x) → ((x : X) → Contains new x ↔ New x)
      → ((x : X) → Contains before x ↔ (Contains agents (agent_of x) × Old x)) → ((x : X) → Contains after x ↔ (Contains agents (agent_of x) × New x))
      → ((x : X) → (Contains agents (agent_of x) → ⊥) → (Old x → New x) × (New x → Old x)) → AreApart before after came gone → AreApart old new came gone
  part_apart olds news befores afters beside is = record {
    came_is = λ x. (
      λ h. let w = (is.came_is x).0 h in let a = (afters x).0 w.0 in ((news x).1 a.1, λ o. w.1 ((befores x).1 (a.0, (olds x).0 o))),
      λ w. let n = (news x).0 w.0 in
          elim (in_or_not nat_cmp_total exact_unsigned agents (agent_of x)) [
            | inl among ↦ (is.came_is x).1 ((afters x).1 (among, n), λ b. w.1 ((olds x).1 ((befores x).0 b).1))
            | inr not ↦ absurd (w.1 ((olds x).1 ((beside x not).1 n)))
          ],
    );
    gone_is = λ x. (
      λ h. let w = (is.gone_is x).0 h in let b = (befores x).0 w.0 in ((olds x).1 b.1, λ n. w.1 ((afters x).1 (b.0, (news x).0 n))),
      λ w. let o = (olds x).0 w.0 in
          elim (in_or_not nat_cmp_total exact_unsigned agents (agent_of x)) [
            | inl among ↦ (is.gone_is x).1 ((befores x).1 (among, o), λ a. w.1 ((news x).1 ((afters x).0 a).1))
            | inr not ↦ absurd (w.1 ((news x).1 ((beside x not).0 o)))
          ],
    );
  }

-- ---- beside the agents that a change covers lines and visits stay
module _ (agents : List ℕ) (map : Chart) (was : Rows) (grid : Chart) (rows : Rows) (cover : CoverChanges agents map was grid rows) where
  pub lines_beside : (line : AgentLine) → (Contains agents line.agent → ⊥) → (IsLineOf map was line → IsLineOf grid rows line) × (IsLineOf grid rows line → IsLineOf map was line)
  lines_beside line not = elim (cover line.agent not) [
    | inl none ↦ (
      λ is. let no : None ≡ Some is.row = sym none.0 ∙ is.live in absurd (cc),
      λ is. let no : None ≡ Some is.row = sym none.1 ∙ is.live in absurd (cc),
    )
    | inr same ↦ (
      λ is. record { row = is.row; live = sym same.0 ∙ is.live; is = subst (λ (g : Chart). IsLine g (line.agent, is.row) line) same.1 is.is },
      λ is. record { row = is.row; live = same.0 ∙ is.live; is = subst (λ (g : Chart). IsLine g (line.agent, is.row) line) (sym same.1) is.is },
    )
  ]

  pub visits_beside : (visit : Visit) → (Contains agents visit.agent → ⊥) → (IsVisitOf map was visit → IsVisitOf grid rows visit) × (IsVisitOf grid rows visit → IsVisitOf map was visit)
  visits_beside visit not = elim (cover visit.agent not) [
    | inl none ↦ (
      λ is. let no : None ≡ Some is.row = sym none.0 ∙ is.live in absurd (cc),
      λ is. let no : None ≡ Some is.row = sym none.1 ∙ is.live in absurd (cc),
    )
    | inr same ↦ (
      λ is. record { row = is.row; live = sym same.0 ∙ is.live; blocked = subst (λ (g : Chart). IsBlocked g is.row.plan visit.time visit.cell) same.1 is.blocked },
      λ is. record { row = is.row; live = same.0 ∙ is.live; blocked = subst (λ (g : Chart). IsBlocked g is.row.plan visit.time visit.cell) (sym same.1) is.blocked },
    )
  ]

-- moves from set to set are those from list to list of the same elements
pub tell_listed : {X : Type 0} (P Q : X → Type 0) (a b old new : List X) (moves : Moved X) → ((x : X) → Contains a x ↔ P x) → ((x : X) → Contains b x ↔ Q x) → ((x : X) → Contains old x ↔ P x) → ((x : X) → Contains new x ↔ Q x) → Tell a b moves → Tell old new moves
tell_listed P Q a b old new moves firsts seconds olds news tell followed =
    let is = tell followed in record {
      came_is = λ x. (
        λ h. let w = (is.came_is x).0 h in ((news x).1 ((seconds x).0 w.0), λ o. w.1 ((firsts x).1 ((olds x).0 o))),
        λ w. (is.came_is x).1 ((seconds x).1 ((news x).0 w.0), λ h. w.1 ((olds x).1 ((firsts x).0 h))),
      );
      gone_is = λ x. (
        λ h. let w = (is.gone_is x).0 h in ((olds x).1 ((firsts x).0 w.0), λ n. w.1 ((seconds x).1 ((news x).0 n))),
        λ w. (is.gone_is x).1 ((firsts x).1 ((olds x).0 w.0), λ h. w.1 ((news x).1 ((seconds x).0 h))),
      );
    }
