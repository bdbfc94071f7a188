-- The agents that a change can touch cover what it changes.
use Rattle.std.proofs.Common.{◌≡◌, ◌⊎◌, inl, inr, ℕ, zero, List, [], ◌∷◌, length, Contains, Option, Some, None, refl, sym, subst, ◌∙◌, arith}
use Rattle.std.specs.Prelude.{All}
use Rattle.std.specs.Option.{IsSome}
use Rattle.std.proofs.lemmas.Option.{slice_get_within, get_or_from_slice_get}
use Rattle.grid_cells.specs.Cell.{Point}
use Rattle.grid_cells.specs.Grid.{Chart}
use Rattle.goal_fields.specs.Marks.{IsWhole}
use Rattle.goal_fields.specs.Target.{Covers, IsSound}
use Rattle.plan_table.specs.Plans.{row_of}
use Rattle.plan_table.specs.declared.plans.Row.{Row}
use Rattle.plan_table.proofs.Fleets.{rank_of, row_at_rank}
use Rattle.plan_table.proofs.Order.{EachOf-at}
use Rattle.desk_report.specs.declared.reports.AgentLine.{AgentLine}
use Rattle.scene_edits.specs.declared.named_agents.Former.{Former}
use Rattle.live_report.specs.Following.{AreLeft}
use Rattle.live_report.specs.Lines.{IsOpenLine, AreLinesOf}
use Rattle.live_report.specs.Looks.{HasFormers, HasAgentsOf}
use Rattle.live_report.specs.Prices.{Rows, Prices, AreOfRows}
use Rattle.live_report.specs.Turnovers.{CoverChanges}
use Rattle.live_report.proofs.Staying.{same_chart}

-- each agent that is there has a line
line_there : (grid : Chart) (rows : Rows) (lines : List AgentLine) → AreLinesOf grid rows lines → (agent : ℕ) (row : Row) → rows agent ≡ Some row → (line : AgentLine) × Contains lines line × (line.agent ≡ agent)
line_there grid rows lines were agent row live =
    let there : row_of were.table agent ≡ Some row = were.same agent ∙ live in
    let ranked = rank_of were.table agent (subst IsSome (sym there) refl) in
    let at = row_at_rank were.table were.by_agent ranked.0 agent ranked.2 in
    let goes = EachOf-at (IsOpenLine grid) were.table lines were.are ranked.0 (agent, at.0) at.2 in
    (goes.0, (ranked.0, slice_get_within lines ranked.0 goes.0 goes.1, get_or_from_slice_get lines ranked.0 goes.0 goes.0 goes.1), goes.2.agent)

none_or_some : (cells : List Point) → (length cells ≡ 0) ⊎ (length cells ≡ 0 → ⊥)
none_or_some [] = inl refl
none_or_some (cell ∷ cells) = inr (λ none. omega arith)

module _ (map grid : Chart) (was rows : Rows) (books : Prices) (cells : List Point) (are : AreOfRows map was books) (sound : All IsSound books.fields) (whole : IsWhole grid) (size : map.size ≡ grid.size) (covers : Covers cells map grid) where
  pub covered : (formers : List Former) (lines : List AgentLine) (agents : List ℕ) → AreLeft was rows formers → AreLinesOf map was lines → HasFormers formers agents → ((length cells ≡ 0 → ⊥) → HasAgentsOf lines agents) → CoverChanges agents map was grid rows
  covered formers lines agents left were has all agent not =
      let same : was agent ≡ rows agent = left.others agent (λ former among is. not (subst (Contains agents) is (has former among))) in
      cases (was agent) refl same
    where
      cases : (row : Option Row) → was agent ≡ row → was agent ≡ rows agent → ((was agent ≡ None) × (rows agent ≡ None)) ⊎ ((was agent ≡ rows agent) × (map ≡ grid))
      cases None live same = inl (live, sym same ∙ live)
      cases (Some row) live same = elim (none_or_some cells) [
        | inl none ↦ inr (same, same_chart map grid was books cells are sound whole size none covers agent row live)
        | inr some ↦ let line = line_there map was lines were agent row live in absurd (not (subst (Contains agents) line.2 (all some line.0 line.1)))
      ]
