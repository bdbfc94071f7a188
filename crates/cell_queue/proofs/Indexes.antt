-- Cells and their indexes.
use Rattle.std.proofs.Common.{◌≡◌, ◌<◌, arith}
use Rattle.std.proofs.Math.Nat.{mul_comm}
use Rattle.std.proofs.lemmas.Nat.{same_from_place, mul-add-lt}
use Rattle.grid_cells.specs.Cell.{Point}
use Rattle.grid_cells.specs.Size.{Extent, Holds}
use Rattle.grid_cells.specs.Grid.{flag_index}
use Rattle.cell_queue.specs.Queue.{area}

-- cells of equal coordinates are equal
pub same_coordinates : (a b : Point) → a.x ≡ b.x → a.y ≡ b.y → a ≡ b
same_coordinates a b p q = λ i. record { x = p i; y = q i }

-- no two cells of a map stand at one place
pub same_place : (size : Extent) (a b : Point) → Holds size a → Holds size b → flag_index size a ≡ flag_index size b → a ≡ b
same_place size a b p q e =
    let s : (a.y ≡ b.y) × (a.x ≡ b.x) = same_from_place a.y a.x b.y b.x size.width p.0 q.0 e in
    same_coordinates a b s.1 s.0

-- a cell's place is in the list
pub index_below : (size : Extent) (a : Point) → Holds size a → flag_index size a < area size
index_below size a p = omega (arith, mul-add-lt a.y size.width a.x size.height p.1 p.0, mul_comm size.height size.width)
