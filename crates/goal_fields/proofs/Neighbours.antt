-- Cells and their neighbours.
use Rattle.std.proofs.lemmas.Bool.Decides.{nat_tests}
use Rattle.std.specs.Prelude.{◌==◌, if◌then◌else◌}
use Rattle.std.proofs.Common.{zero, suc, ◌≡◌, ℕ, ◌+◌, ◌-◌, ◌*◌, ◌/◌, ◌%◌, ◌<◌, ◌⊎◌, Option, Some, None, arith}
use Rattle.std.proofs.Math.Nat.{mul_comm}
use Rattle.std.proofs.lemmas.Nat.{div_below}
use Rattle.std.proofs.lemmas.Bool.{cases_eq}
use Rattle.grid_cells.specs.Cell.{Point, steps_between, IsAdjacent}
use Rattle.grid_cells.specs.Size.{Extent, Holds, held}
use Rattle.grid_cells.specs.Grid.{flag_index, Chart, IsOpen}
use Rattle.grid_cells.specs.Walks.{Walk}
use Rattle.cell_queue.specs.Queue.{area}
use Rattle.cell_queue.proofs.Indexes.{same_coordinates}

-- each place of a list of all cells is a cell's
pub cell_at : (size : Extent) → 0 < size.width → (i : ℕ) → i < area size → (c : Point) × Holds size c × (flag_index size c ≡ i)
cell_at size wide i h =
    let whole : i < size.height * size.width = omega (arith, mul_comm size.height size.width) in
    let column : i % size.width < size.width = omega arith in
    let row : i / size.width < size.height = div_below i size.width size.height wide whole in
    let place : i / size.width * size.width + i % size.width ≡ i = omega arith in
    (record { x = i % size.width; y = i / size.width }, (column, row), place)

-- whether two cells are the same
pub cases_cell : (a b : Point) → (a ≡ b) ⊎ (a ≡ b → ⊥)
cases_cell a b = grind (arith, nat_tests, same_coordinates a b)

-- whether the map has a cell
pub cases_held : (size : Extent) (c : Point) → Holds size c ⊎ (Holds size c → ⊥)
cases_held size c = grind arith

-- whether two cells are adjacent
pub cases_adjacent : (a b : Point) → IsAdjacent a b ⊎ (IsAdjacent a b → ⊥)
cases_adjacent a b = cases_eq (steps_between a b) 1

-- being adjacent goes both ways
pub IsAdjacent-sym : (a b : Point) → IsAdjacent a b → IsAdjacent b a
IsAdjacent-sym a b h = omega arith

-- a walk begins at an open cell
pub Walk-open : (grid : Chart) (goal : Point) (m : ℕ) (c : Point) → Walk grid m c goal → IsOpen grid c
Walk-open grid goal zero c w = w.0
Walk-open grid goal (suc m) c w = w.0

-- the neighbours of a cell, each if the map has it
abbrev pub up_of : Extent → Point → Option Point
up_of size cell = if cell.y == 0 then None else held size cell.x (cell.y - 1)

abbrev pub left_of : Extent → Point → Option Point
left_of size cell = if cell.x == 0 then None else held size (cell.x - 1) cell.y

abbrev pub right_of : Extent → Point → Option Point
right_of size cell = held size (cell.x + 1) cell.y

abbrev pub down_of : Extent → Point → Option Point
down_of size cell = held size cell.x (cell.y + 1)

-- the neighbours are on the map, and adjacent
pub up_of-adjacent : (size : Extent) (c n : Point) → up_of size c ≡ Some n → Holds size n × IsAdjacent c n
up_of-adjacent size c n e = grind (arith, nat_tests)

pub left_of-adjacent : (size : Extent) (c n : Point) → left_of size c ≡ Some n → Holds size n × IsAdjacent c n
left_of-adjacent size c n e = grind (arith, nat_tests)

pub right_of-adjacent : (size : Extent) (c n : Point) → right_of size c ≡ Some n → Holds size n × IsAdjacent c n
right_of-adjacent size c n e = grind (arith, nat_tests)

pub down_of-adjacent : (size : Extent) (c n : Point) → down_of size c ≡ Some n → Holds size n × IsAdjacent c n
down_of-adjacent size c n e = grind (arith, nat_tests)

-- each adjacent cell of the map is one of the four
pub neighbour_cases : (size : Extent) (c n : Point) → Holds size n → IsAdjacent c n →
    (up_of size c ≡ Some n) ⊎ ((left_of size c ≡ Some n) ⊎ ((right_of size c ≡ Some n) ⊎ (down_of size c ≡ Some n)))
neighbour_cases size c n h near = grind (arith, nat_tests, same_coordinates)

-- a neighbour stands above, at the left, at the right or below
pub beside_cases : (a b : Point) → IsAdjacent a b →
    ((b.x ≡ a.x) × (b.y + 1 ≡ a.y)) ⊎ (((b.x + 1 ≡ a.x) × (b.y ≡ a.y)) ⊎ (((b.x ≡ a.x + 1) × (b.y ≡ a.y)) ⊎ ((b.x ≡ a.x) × (b.y ≡ a.y + 1))))
beside_cases a b near = grind arith
