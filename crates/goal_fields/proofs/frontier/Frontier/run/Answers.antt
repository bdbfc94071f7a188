use Rattle.std.proofs.Common.{◌≡◌, ◌+◌, ◌*◌, ◌++◌, ◌∷◌, [], ◌∙◌, arith, subst, Some, None}
use Rattle.grid_cells.specs.Cell.{Point}
use Rattle.grid_cells.specs.Grid.{Chart}
use Rattle.grid_cells.specs.Walks.{IsDistance}
use Rattle.goal_fields.specs.AStar.{IsSeekingFrom}
use Rattle.goal_fields.proofs.AStarLemmas.{same_cell, IsDistance-come, IsDistance-none}
use Rattle.goal_fields.proofs.frontier.Frontier.run.Goals as goal

pub returns-then-eq-clause-distance : goal.returns-then-eq-clause-distance
returns-then-eq-clause-distance c =
    let ends = c.args.ends.now in
    let t = c.turn.new.self in
    let same : c.in-Some.front ≡ ends.start = same_cell c.in-Some.front ends.start c.if-eq.ensures in
    let come : IsSeekingFrom t ends (t.now.items ++ ends.start ∷ []) =
    subst (λ (v : Point). IsSeekingFrom t ends (t.now.items ++ v ∷ [])) same (c.in-Some.ensures.seeking ends c.loop-front.invariant.seeking) in
    let found = c.steps_between.result + 2 * t.away in
    subst (λ (g : Chart). IsDistance g ends.start ends.goal (Some found)) (c.in-Some.ensures.grid ∙ c.loop-front.invariant.grid)
    (IsDistance-come t.grid ends t.stamps.items t.base t.away t.now.items t.next.items found come (omega (arith, c.steps_between.ensures)))

pub returns-clause-distance : goal.returns-clause-distance
returns-clause-distance c =
    let ends = c.args.ends.now in
    let t = c.turn.new.self in
    subst (λ (g : Chart). IsDistance g ends.start ends.goal None) (c.in_default.ensures.grid ∙ c.loop-front.invariant.grid)
    (IsDistance-none t.grid ends t.stamps.items t.base t.away (c.in_default.ensures.seeking ends c.loop-front.invariant.seeking))
