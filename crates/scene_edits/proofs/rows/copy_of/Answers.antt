use Rattle.std.proofs.Common.{◌≡◌, ◌∷◌, [], ◌++◌, ℕ, List, Some, None, sym, ap, subst, ◌∙◌, rules}
use Rattle.std.specs.List.{slice_get}
use Rattle.grid_cells.specs.Cell.{Point}
use Rattle.plan_table.specs.Plans.{row_of, agents_of}
use Rattle.plan_table.specs.declared.plans.Row.{Row}
use Rattle.scene_edits.proofs.EditsInOrder.{take-next}
use Rattle.scene_edits.proofs.RowEnds.{AreBelow, before_is_below, row_by_rank, no_row_missing}
use Rattle.scene_edits.proofs.rows.copy_of.Goals as goal

pub unreachable-requires-in_default-row : goal.unreachable-requires-in_default-row
unreachable-requires-in_default-row c =
    let at : slice_get (agents_of c.args.plans.now.rows) c.loop-rank.rank ≡ Some c.in-Some.agent = search rules in
    let none : row_of c.args.plans.now.rows c.in-Some.agent ≡ None = search rules in
    no_row_missing c.args.plans.now.rows c.loop-rank.rank c.in-Some.agent c.count-rank-end.ensures.by_agent at none

pub append_row-requires : goal.append_row-requires
append_row-requires c =
    let at : slice_get (agents_of c.args.plans.now.rows) c.loop-rank.rank ≡ Some c.in-Some.agent = search rules in
    let found : row_of c.args.plans.now.rows c.in-Some.agent ≡ Some c.in-Some-row.row.now = search rules in
    let there = row_by_rank c.args.plans.now.rows c.loop-rank.rank c.in-Some.agent c.in-Some-row.row.now c.count-rank-end.ensures.by_agent at found in
    record { above = subst (AreBelow c.in-Some.agent) (sym c.loop-rank.invariant) (before_is_below c.args.plans.now.rows c.count-rank-end.ensures.by_agent c.loop-rank.rank c.in-Some.agent c.in-Some-row.row.now there) }

pub loop-rank-preserved : goal.loop-rank-preserved
loop-rank-preserved c =
    let at : slice_get (agents_of c.args.plans.now.rows) c.loop-rank.rank ≡ Some c.in-Some.agent = search rules in
    let found : row_of c.args.plans.now.rows c.in-Some.agent ≡ Some c.in-Some-row.row.now = search rules in
    let there = row_by_rank c.args.plans.now.rows c.loop-rank.rank c.in-Some.agent c.in-Some-row.row.now c.count-rank-end.ensures.by_agent at found in
    let plan : c.in_ok-copy.field-0 ≡ c.in-Some-row.row.now.plan = c.in_ok-copy.ensures in
    let made : c.append_row.new.plans.rows ≡ c.loop-rank.copy.rows ++ (c.in-Some.agent, record { goal = c.in-Some-row.row.now.goal; plan = c.in_ok-copy.field-0 }) ∷ [] = c.in_ok-append_row.ensures in
    made
    ∙ ap (λ (p : List Point). c.loop-rank.copy.rows ++ (c.in-Some.agent, record { goal = c.in-Some-row.row.now.goal; plan = p }) ∷ []) plan
    ∙ ap (λ (rows : List (ℕ × Row)). rows ++ (c.in-Some.agent, c.in-Some-row.row.now) ∷ []) c.loop-rank.invariant
    ∙ sym (take-next c.args.plans.now.rows c.loop-rank.rank (c.in-Some.agent, c.in-Some-row.row.now) there)
