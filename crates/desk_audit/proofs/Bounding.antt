-- Lower bounds, told by paths and noted place by place, and lines in their order.
use Rattle.std.proofs.Common.{◌≡◌, ℕ, ◌+◌, ◌-◌, ◌<◌, ◌≤◌, min, List, [], ◌∷◌, ◌++◌, length, set, drop, slice_range, Some, None, Option, subst, arith}
use Rattle.std.specs.List.{slice_get, All}
use Rattle.std.proofs.lemmas.Option.{get_or_from_slice_get, slice_get_within}
use Rattle.std.proofs.lemmas.List.{get_or-drop, take_more, get_or-set_same, get_or-set_other, length-drop}
use Rattle.grid_cells.specs.Grid.{Chart}
use Rattle.grid_cells.specs.Cell.{Point, steps_between}
use Rattle.grid_cells.specs.Size.{Extent, Holds}
use Rattle.grid_cells.specs.Walks.{Walk}
use Rattle.plan_table.specs.Path.{place, last_index, IsPath}
use Rattle.plan_table.specs.declared.plans.Row.{Row}
use Rattle.scene_edits.specs.Scene.{IsRowOn}
use Rattle.mapf_rules.specs.Costs.{IsFinished}
use Rattle.mapf_rules.specs.Visits.{IsUnblocked}
use Rattle.goal_fields.proofs.AStarLemmas.{Walk-long}
use Rattle.desk_report.specs.Report.{IsBound}
use Rattle.desk_report.proofs.Walking.{walk_of_row}
use Rattle.desk_audit.specs.Parts.{HasBounds}

pub bounds_set : (grid : Chart) (rows : List (ℕ × Row)) (from place : ℕ) (bounds : List (Option (Option ℕ))) (bound : Option ℕ) (entry : ℕ × Row) → place < length bounds → slice_get rows (from + place) ≡ Some entry → IsBound grid entry.1 bound → HasBounds grid rows from bounds → HasBounds grid rows from (set bounds place (Some bound))
bounds_set grid rows from place bounds bound entry within at is has k b e noted at_k =
    grind (arith, has k b e, get_or-set_same bounds place (Some bound) None within, get_or-set_other bounds place k (Some bound) None)

pub range_push : {X : Type 0} (xs : List X) (from k : ℕ) (x : X) → from ≤ k → slice_get xs k ≡ Some x → slice_range xs from (k + 1) ≡ slice_range xs from k ++ x ∷ []
range_push xs from k x le at =
    let within = slice_get_within xs k x at in
    grind (arith, take_more (drop from xs) (k - from) x, get_or-drop from xs (k - from) x, get_or_from_slice_get xs k x x at, length-drop from xs)

-- where an open path to the goal has no more steps than lie between start and goal where nothing is closed, there is no shorter walk
pub bound_by_path : (grid : Chart) (row : Row) (start : Point) (steps : ℕ) → IsRowOn grid.size row → IsFinished row → IsUnblocked grid row.plan →
    place row.plan 0 ≡ Some start → steps ≡ steps_between start row.goal → steps ≡ last_index row.plan → IsBound grid row (Some steps)
bound_by_path grid row start steps on finished free starts is last =
    let (long, few, walk) = walk_of_row grid row on.path on.cells finished free start starts in
    let least : steps_between start row.goal ≤ long = Walk-long grid row.goal long start walk in
    let same : long ≡ steps = omega (arith, few, least) in
    record {
      start = start;
      starts = starts;
      distance = (subst (λ (n : ℕ). Walk grid n start row.goal) same walk, λ m w. omega (arith, Walk-long grid row.goal m start w));
    }

-- where a path begins on the map
pub held_at_start : (size : Extent) (path : List Point) (start : Point) → IsPath path → All (Holds size) path → place path 0 ≡ Some start → Holds size start
held_at_start size path start is held at =
    let first : min 0 (last_index path) ≡ 0 = omega arith in
    let there : slice_get path 0 ≡ Some start = rw first at at in
    subst (Holds size) (get_or_from_slice_get path 0 start start there) (held 0 start (slice_get_within path 0 start there))
