-- Lines where no cell flips.
use Rattle.std.proofs.Common.{◌≡◌, ℕ, List, [], ◌∷◌, length, Option, None, Some, refl, sym, subst, ◌∙◌, arith}
use Rattle.std.specs.Prelude.{All}
use Rattle.std.proofs.lemmas.List.Elements.{All-contains}
use Rattle.grid_cells.specs.Cell.{Point}
use Rattle.grid_cells.specs.Size.{Holds}
use Rattle.grid_cells.specs.Grid.{Chart}
use Rattle.plan_table.specs.Plans.{row_of, IsByAgent}
use Rattle.plan_table.specs.declared.plans.Row.{Row}
use Rattle.plan_table.proofs.Fleets.{row_here}
use Rattle.goal_fields.specs.Marks.{IsWhole}
use Rattle.goal_fields.specs.Target.{Standing, IsSound, Covers}
use Rattle.goal_fields.proofs.CoverLemmas.{same_map}
use Rattle.desk_report.specs.declared.reports.AgentLine.{AgentLine}
use Rattle.live_report.specs.Lines.{AreOpenLines, AreLinesOf, WhereLinesStand}
use Rattle.live_report.specs.Prices.{Rows, Prices, AreOfRows}

no_lines : (one other : Chart) (lines : List AgentLine) → AreOpenLines one [] lines → AreOpenLines other [] lines
no_lines one other [] are = tt
no_lines one other (line ∷ lines) are = absurd are

module _ (old new : Chart) (rows : Rows) (books : Prices) (cells : List Point) (are : AreOfRows old rows books) (sound : All IsSound books.fields) (whole : IsWhole new) (size : old.size ≡ new.size) (none : length cells ≡ 0) (covers : Covers cells old new) where
  -- a map that has a field is the same as before
  pub same_chart : (agent : ℕ) (row : Row) → rows agent ≡ Some row → old ≡ new
  same_chart agent row live =
      let held = (are.goals row.goal).1 (agent, record { row = row; live = live; aims = refl }) in
      let field : Standing = held.0 in
      let of : field.grid ≡ old = All-contains (λ (f : Standing). f.grid ≡ old) books.fields field are.fields held.1 in
      let is : IsSound field = All-contains IsSound books.fields field sound held.1 in
      let inside : Holds old.size field.goal = subst (λ (g : Chart). Holds g.size field.goal) of is.held in
      same_map old new cells none covers (sym size) (omega (arith, inside.0)) (subst IsWhole of is.whole) whole

  lines_stay : (lines : List AgentLine) → AreLinesOf old rows lines → AreLinesOf new rows lines
  lines_stay lines were = stay were.table were.by_agent were.same were.are
    where
      stay : (table : List (ℕ × Row)) → IsByAgent table → ((agent : ℕ) → row_of table agent ≡ rows agent) → AreOpenLines old table lines → AreLinesOf new rows lines
      stay [] by_agent same each = record { table = []; by_agent = by_agent; same = same; are = no_lines old new lines each }
      stay ((agent, row) ∷ table) by_agent same each =
          let live : rows agent ≡ Some row = sym (same agent) ∙ (row_here ((agent, row) ∷ table) by_agent 0 agent row refl).0 in
          subst (λ (g : Chart). AreLinesOf g rows lines) (same_chart agent row live) (record { table = (agent, row) ∷ table; by_agent = by_agent; same = same; are = each })

  pub where_stay : (lines : Option (List AgentLine)) → WhereLinesStand old rows lines → WhereLinesStand new rows lines
  where_stay None were = were
  where_stay (Some lines) were = lines_stay lines were
