-- Spots as they are kept, a set of them for each cell: words for the program's own steps (this project's choice).
use Rattle.std.specs.Prelude.{◌≡◌, ◌⊎◌, ◌↔◌, ◌&&◌, ◌==◌, ◌≤◌, Bool, List, [], Contains}
use Rattle.std.specs.Option.{unwrap_or}
use Rattle.std.specs.Map.{lookup}
use Rattle.grid_cells.specs.Cell.{Point}
use Rattle.grid_cells.specs.declared.numbers.TheConstants.{MOST_AGENT}
use Rattle.where_index.specs.declared.spot_sets.Spot.{Spot}

-- cells, with the spots of each
abbrev pub ByCell : Type 0
ByCell = List (Point × List Spot)

abbrev pub cell_eq : Point → Point → Bool
cell_eq a b = (a.y == b.y) && (a.x == b.x)

-- the spots of a cell
abbrev pub spots_at : ByCell → Point → List Spot
spots_at sets cell = unwrap_or (lookup (cell_eq cell) sets) []

-- each spot has an agent's number
abbrev pub AreWithin : ByCell → Type 0
AreWithin sets = (cell : Point) (s : Spot) → Contains (spots_at sets cell) s → s.step.agent ≤ MOST_AGENT

-- new has that spot at the cell, and at each cell the spots of old
abbrev pub GainsAt : ByCell → ByCell → Point → Spot → Type 0
GainsAt old new cell added = (q : Point) (s : Spot) → Contains (spots_at new q) s ↔ (Contains (spots_at old q) s ⊎ ((q ≡ cell) × (s ≡ added)))

-- new has at each cell the spots of old, but for that one at the cell
abbrev pub LosesAt : ByCell → ByCell → Point → Spot → Type 0
LosesAt old new cell lost = (q : Point) (s : Spot) → Contains (spots_at new q) s ↔ (Contains (spots_at old q) s × ((q ≡ cell) × (s ≡ lost) → ⊥))

-- both have the same spots at each cell
abbrev pub HaveSame : ByCell → ByCell → Type 0
HaveSame old new = (cell : Point) → spots_at new cell ≡ spots_at old cell
