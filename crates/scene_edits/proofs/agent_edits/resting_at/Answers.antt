use Rattle.std.proofs.Common.{subst, ◌≡◌, List, ◌∷◌, []}
use Rattle.grid_cells.specs.Cell.{Point}
use Rattle.plan_table.specs.Path.{IsWalkable, IsPathOf}
use Rattle.scene_edits.proofs.PathsOf.{path_of-is}
use Rattle.scene_edits.proofs.agent_edits.resting_at.Goals as goal

pub returns : goal.returns
returns c =
    let facts = c.in-Ok.ensures in
    let one : c.in_ok-cells.cells.items ≡ c.args.cell ∷ [] = c.in_ok-cells.ensures.items in
    path_of-is (c.args.cell ∷ []) c.in-Ok.plan (subst IsWalkable one facts.walkable) (subst (λ (cells : List Point). IsPathOf cells c.in-Ok.plan) one facts.path)
