-- What an edit of one cell leaves as it was.
use Rattle.std.specs.Prelude.{Bool}
use Rattle.std.proofs.Common.{◌≡◌, ◌≢◌, ℕ, ◌<◌, List, length, Some, arith}
use Rattle.std.specs.List.{slice_get}
use Rattle.std.proofs.lemmas.Option.{gets, slice_get_cases, slice_get-get_or}
use Rattle.std.proofs.lemmas.Grind.{common_steps}
use Rattle.std.proofs.lemmas.List.{get_or-set_other}
use Rattle.std.proofs.Math.ListN.{set, length-set}
use Rattle.grid_cells.specs.Cell.{Point}
use Rattle.grid_cells.specs.Size.{Holds}
use Rattle.grid_cells.specs.Grid.{Chart, flag_index, with_cell}
use Rattle.cell_queue.proofs.Indexes.{same_place}
use Rattle.goal_fields.specs.Target.{flag_at}

-- an element after a write at another place
pub slice_get-set_other : (xs : List Bool) (i j : ℕ) (v : Bool) → j ≢ i → slice_get (set xs i v) j ≡ slice_get xs j
slice_get-set_other xs i j v ne = grind (arith, common_steps, gets, slice_get_cases xs j, length-set xs i v, get_or-set_other xs i j v)

-- the element that was written
pub slice_get-set_same : (xs : List Bool) (i : ℕ) (v : Bool) → i < length xs → slice_get (set xs i v) i ≡ Some v
slice_get-set_same xs i v h = grind (arith, common_steps, gets, length-set xs i v, slice_get-get_or (set xs i v) i v)

-- another cell's flag does not count
pub flag_other : (grid : Chart) (u n : Point) (free : Bool) → Holds grid.size u → Holds grid.size n → n ≢ u → flag_at (with_cell grid u free) n ≡ flag_at grid n
flag_other grid u n free hu hn ne = slice_get-set_other grid.flags (flag_index grid.size u) (flag_index grid.size n) free (λ e. ne (same_place grid.size n u hn hu e))
