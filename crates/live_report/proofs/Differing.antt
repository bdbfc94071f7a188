-- What came and went between two reports, as the differences of the two.
use Rattle.std.proofs.Common.{◌≡◌, ◌⊎◌, inl, inr, ℕ, ◌<◌, ◌≤◌, Bool, true, false, List, [], ◌∷◌, length, get_or, Contains, Option, Some, None, refl, sym, ap, subst, ◌∙◌, arith}
use mathlib.Core.Logic.{◌↔◌}
use mathlib.Core.Bool.{false≢true}
use Rattle.std.specs.Prelude.{map, AllPairs, filter}
use Rattle.std.specs.Option.{IsSome, is_none}
use Rattle.std.specs.declared.cmp.Ordering.TheVariants.{Less}
use Rattle.std.proofs.lemmas.Bool.Decides.{nat_tests}
use Rattle.std.proofs.lemmas.Grind.{common_steps}
use Rattle.std.proofs.lemmas.List.{get_or-map, get_or_default, length-map}
use Rattle.std.proofs.lemmas.List.Kept.{AllPairs-filter}
use Rattle.std.proofs.lemmas.Option.{gets, same_Some, slice_get_within, get_or_from_slice_get}
use Rattle.where_index.proofs.Filtering.{filter_keeps}
use Rattle.grid_cells.specs.Grid.{Chart}
use Rattle.plan_table.specs.Order.{ComesBefore}
use Rattle.plan_table.specs.Plans.{row_of, IsByAgent}
use Rattle.plan_table.specs.declared.plans.Row.{Row}
use Rattle.plan_table.specs.declared.tracks.Mode.{Mode}
use Rattle.plan_table.proofs.Fleets.{rank_of, row_at_rank}
use Rattle.plan_table.proofs.Order.{EachOf-at, Contains-nil, Contains-cons_head, Contains-cons_tail, Contains-cons_cases}
use Rattle.mapf_rules.specs.ConflictList.{listing_key}
use Rattle.mapf_rules.specs.Visits.{AreVisits, IsVisit, visit_key}
use Rattle.mapf_rules.specs.declared.entries.Conflict.{Conflict}
use Rattle.mapf_rules.specs.declared.visits.Visit.{Visit}
use Rattle.mapf_rules.specs.contracts.entries.ConflictOrd.TheImpl as entry_order
use Rattle.mapf_rules.specs.contracts.visits.VisitOrd.TheImpl as visit_order
use Rattle.mapf_rules.proofs.Orders.{conflict_cmp-is}
use Rattle.desk_report.specs.Changes.{AreOnlyIn, agent_key, line_key, agents_in_lines}
use Rattle.desk_report.specs.Report.{IsLine, AreLines}
use Rattle.desk_report.specs.declared.reports.AgentLine.{AgentLine}
use Rattle.desk_report.specs.contracts.reports.AgentLineOrd.TheImpl as line_order
use Rattle.desk_report.proofs.Reporting.{IsLine-unique}
use Rattle.change_history.specs.Moved.{AreApart, Ascend}
use Rattle.live_report.specs.Changed.{AreAgentsGone}
use Rattle.live_report.proofs.Parted.{line_listed}

-- a list has just what these have and those haven't
abbrev pub Has : {X : Type 0} → List X → List X → List X → Type 0
Has {X} these those list = (x : X) → Contains list x ↔ (Contains these x × (Contains those x → ⊥))

pub has_as : {X : Type 0} → (these those list moved : List X) → list ≡ moved → Has these those moved → Has these those list
has_as {X} these those list moved is has = subst (Has these those) (sym is) has

-- ---- entries
pub entries_only : (these those list : List Conflict) → Ascend entry_order.ghosts.cmp list → Has these those list → AreOnlyIn listing_key these those list
entries_only these those list ascend has = record {
  ascending = λ i j d lt within. sym (conflict_cmp-is (get_or list i d) (get_or list j d)) ∙ ascend i j d lt within;
  exact = has;
}

-- ---- visits: of one agent at one time there is one
same_cell : (grid : Chart) (rows : List (ℕ × Row)) (a b : Visit) → IsVisit grid rows a → IsVisit grid rows b → a.agent ≡ b.agent → a.time ≡ b.time → a.cell ≡ b.cell
same_cell grid rows a b of_a of_b agents times = grind (arith, of_a, of_b)

visit_before : (a b : Visit) → visit_order.ghosts.cmp a b ≡ Less → (a.agent ≡ b.agent → a.time ≡ b.time → a.cell ≡ b.cell) → ComesBefore (visit_key a) (visit_key b)
visit_before a b less same = grind (arith, nat_tests)

-- the elements at two places of a list that ascends, each of which another list has
pub visits_only : (grid : Chart) (rows : List (ℕ × Row)) (these those list : List Visit) → AreVisits grid rows these → Ascend visit_order.ghosts.cmp list → Has these those list → AreOnlyIn visit_key these those list
visits_only grid rows these those list are ascend has = record {
  ascending = λ i j d lt within.
      let a : Visit = get_or list i d in
      let b : Visit = get_or list j d in
      let of_a = (are.exact a).0 ((has a).0 (i, omega arith, get_or_default list i a d (omega arith))).0 in
      let of_b = (are.exact b).0 ((has b).0 (j, within, get_or_default list j b d within)).0 in
      visit_before a b (ascend i j d lt within) (same_cell grid rows a b of_a of_b);
  exact = has;
}

-- ---- lines: of one agent there is one
line_less : (a b : AgentLine) → line_order.ghosts.cmp a b ≡ Less → a.agent ≤ b.agent
line_less a b less = grind (arith, nat_tests, common_steps, gets)

line_itself : (a : AgentLine) → line_order.ghosts.cmp a a ≡ Less → ⊥
line_itself a less = grind (arith, nat_tests, common_steps, gets)

agent_before : (a b : ℕ) → a < b → ComesBefore (a ∷ []) (b ∷ [])
agent_before a b less = grind (arith, nat_tests)

module _ (grid : Chart) (rows : List (ℕ × Row)) (by_agent : IsByAgent rows) (whole : List AgentLine) (are : AreLines grid rows whole) where
  one_line : (a b : AgentLine) → Contains whole a → Contains whole b → a.agent ≡ b.agent → a ≡ b
  one_line a b in_a in_b same =
      let of_a = (line_listed grid rows whole by_agent are a).0 in_a in
      let of_b = (line_listed grid rows whole by_agent are b).0 in_b in
      let row : of_b.row ≡ of_a.row = same_Some of_b.row of_a.row (sym of_b.live ∙ ap (row_of rows) (sym same) ∙ of_a.live) in
      IsLine-unique grid (a.agent, of_a.row) a b of_a.is (subst (λ n. IsLine grid (n, of_a.row) b) (sym same) (subst (λ (r : Row). IsLine grid (b.agent, r) b) row of_b.is))

  -- agents rise along a list that ascends
  pub agents_rise : (list : List AgentLine) → Ascend line_order.ghosts.cmp list → ((line : AgentLine) → Contains list line → Contains whole line) → AllPairs (λ a b. a.agent < b.agent) list
  agents_rise list ascend into i j d lt within =
      let a : AgentLine = get_or list i d in
      let b : AgentLine = get_or list j d in
      let in_a = into a (i, omega arith, get_or_default list i a d (omega arith)) in
      let in_b = into b (j, within, get_or_default list j b d within) in
      let less = ascend i j d lt within in
      elim (below_or_same a.agent b.agent (line_less a b less)) [
        | inl below ↦ below
        | inr same ↦ absurd (line_itself a (subst (λ (l : AgentLine). line_order.ghosts.cmp a l ≡ Less) (sym (one_line a b in_a in_b same)) less))
      ]
    where
      below_or_same : (m n : ℕ) → m ≤ n → (m < n) ⊎ (m ≡ n)
      below_or_same m n le = grind arith

  pub lines_only : (those list : List AgentLine) → Ascend line_order.ghosts.cmp list → Has whole those list → AreOnlyIn line_key whole those list
  lines_only those list ascend has =
      let rise = agents_rise list ascend (λ line h. ((has line).0 h).0) in record {
        ascending = λ i j d lt within. agent_before (get_or list i d).agent (get_or list j d).agent (rise i j d lt within);
        exact = has;
      }

  -- an agent has a line exactly where it has a row
  pub row_there : (line : AgentLine) → Contains whole line → IsSome (row_of rows line.agent)
  row_there line h = let is = (line_listed grid rows whole by_agent are line).0 h in subst IsSome (sym is.live) refl

  pub line_for : (agent : ℕ) → IsSome (row_of rows agent) → (line : AgentLine) × Contains whole line × (line.agent ≡ agent)
  line_for agent some =
      let ranked = rank_of rows agent some in
      let at = row_at_rank rows by_agent ranked.0 agent ranked.2 in
      let goes = EachOf-at (IsLine grid) rows whole are ranked.0 (agent, at.0) at.2 in
      (goes.0, (ranked.0, slice_get_within whole ranked.0 goes.0 goes.1, get_or_from_slice_get whole ranked.0 goes.0 goes.0 goes.1), goes.2.agent)

-- ---- agents of lines
pub agents_of : (lines : List AgentLine) (agent : ℕ) → Contains (agents_in_lines lines) agent ↔ ((line : AgentLine) × Contains lines line × (line.agent ≡ agent))
agents_of [] agent = (λ h. absurd (Contains-nil agent h), λ w. absurd (Contains-nil w.0 w.1))
agents_of (line ∷ lines) agent =
    let rest = agents_of lines agent in (
      λ h. elim (Contains-cons_cases line.agent (agents_in_lines lines) agent h) [
        | inl same ↦ (line, Contains-cons_head line lines, same)
        | inr more ↦ let w = rest.0 more in (w.0, Contains-cons_tail line lines w.0 w.1, w.2)
      ],
      λ w. elim (Contains-cons_cases line lines w.0 w.1) [
        | inl same ↦ subst (Contains (agents_in_lines (line ∷ lines))) (ap (λ (l : AgentLine). l.agent) same ∙ w.2) (Contains-cons_head line.agent (agents_in_lines lines))
        | inr more ↦ Contains-cons_tail line.agent (agents_in_lines lines) agent (rest.1 (w.0, more, w.2))
      ],
    )

agents_ascend : (lines : List AgentLine) → AllPairs (λ a b. a.agent < b.agent) lines → AllPairs (λ a b. ComesBefore (agent_key a) (agent_key b)) (agents_in_lines lines)
agents_ascend lines rise i j d lt within =
    let line : AgentLine = record { agent = 0; settle = 0; finished = false; bound = None; gap = None } in
    let last : j < length lines = omega (arith, within, length-map lines (λ (l : AgentLine). l.agent)) in
    let a : get_or (agents_in_lines lines) i d ≡ (get_or lines i line).agent = get_or-map (λ (l : AgentLine). l.agent) lines i line d (omega (arith, lt, last)) in
    let b : get_or (agents_in_lines lines) j d ≡ (get_or lines j line).agent = get_or-map (λ (l : AgentLine). l.agent) lines j line d last in
    rw (a, b) (agent_before (get_or lines i line).agent (get_or lines j line).agent (rise i j line lt last))

-- ---- the agents of lines that have no row
-- whether the line's agent has none
abbrev absent : List (ℕ × Row) → AgentLine → Bool
absent rows line = is_none (row_of rows line.agent)

-- the agents of the lines that went and have no row are those that the old report has and the new one hasn't
module _ (grid map_now : Chart) (was rows : List (ℕ × Row)) (was_by_agent : IsByAgent was) (by_agent : IsByAgent rows) (old new : List AgentLine) (old_are : AreLines grid was old) (new_are : AreLines map_now rows new) where
  pub agents_only : (gone : List AgentLine) (agents : List ℕ) → Ascend line_order.ghosts.cmp gone → Has old new gone → AreAgentsGone rows gone agents → AreOnlyIn agent_key (agents_in_lines old) (agents_in_lines new) agents
  agents_only gone agents ascend has is = record {
    ascending = subst (AllPairs (λ a b. ComesBefore (agent_key a) (agent_key b))) (sym is) (agents_ascend left (AllPairs-filter (λ (a b : AgentLine). a.agent < b.agent) (absent rows) gone (agents_rise grid was was_by_agent old old_are gone ascend (λ line h. ((has line).0 h).0))));
    exact = λ agent. (λ h. into agent (subst (λ (l : List ℕ). Contains l agent) is h), λ w. subst (λ (l : List ℕ). Contains l agent) (sym is) (back agent w.0 w.1));
  }
    where
      left : List AgentLine
      left = filter (absent rows) gone

      none_none : (o : Option Row) → is_none o ≡ true → IsSome o → ⊥
      none_none None is some = false≢true some
      none_none (Some row) is some = false≢true is

      some_none : (o : Option Row) → (IsSome o → ⊥) → is_none o ≡ true
      some_none None not = refl
      some_none (Some row) not = absurd (not refl)

      into : (agent : ℕ) → Contains (agents_in_lines left) agent → Contains (agents_in_lines old) agent × (Contains (agents_in_lines new) agent → ⊥)
      into agent h =
          let line = (agents_of left agent).0 h in
          let kept = (filter_keeps (absent rows) gone line.0).0 line.1 in (
            (agents_of old agent).1 (line.0, ((has line.0).0 kept.0).0, line.2),
            λ n. let other = (agents_of new agent).0 n in none_none (row_of rows line.0.agent) kept.1 (subst (λ a. IsSome (row_of rows a)) (other.2 ∙ sym line.2) (row_there map_now rows by_agent new new_are other.0 other.1)),
          )

      back : (agent : ℕ) → Contains (agents_in_lines old) agent → (Contains (agents_in_lines new) agent → ⊥) → Contains (agents_in_lines left) agent
      back agent o not =
          let line = (agents_of old agent).0 o in
          let none : IsSome (row_of rows line.0.agent) → ⊥ = λ some. let there = line_for map_now rows by_agent new new_are line.0.agent some in not ((agents_of new agent).1 (there.0, there.1, there.2 ∙ line.2)) in
          let went = (has line.0).1 (line.1, λ n. none (row_there map_now rows by_agent new new_are line.0 n)) in
          (agents_of left agent).1 (line.0, (filter_keeps (absent rows) gone line.0).1 (went, some_none (row_of rows line.0.agent) none), line.2)
