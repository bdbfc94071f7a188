-- A cell has one distance.
use Rattle.std.proofs.Common.{◌≡◌, ℕ, ◌≤◌, Option, Some, None, refl, ap, arith}
use Rattle.grid_cells.specs.Cell.{Point}
use Rattle.grid_cells.specs.Grid.{Chart}
use Rattle.grid_cells.specs.Walks.{IsDistance}

pub IsDistance-unique : (grid : Chart) (from goal : Point) (a b : Option ℕ) → IsDistance grid from goal a → IsDistance grid from goal b → a ≡ b
IsDistance-unique grid from goal None None left right = refl
IsDistance-unique grid from goal None (Some n) left right = absurd (left n right.0)
IsDistance-unique grid from goal (Some m) None left right = absurd (right m left.0)
IsDistance-unique grid from goal (Some m) (Some n) left right =
    let lower : m ≤ n = left.1 n right.0 in
    let upper : n ≤ m = right.1 m left.0 in
    let same : m ≡ n = omega arith in
    ap Some same
