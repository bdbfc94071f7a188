-- A map that takes over the states of another's cells.
use Rattle.std.specs.Prelude.{◌≡◌, ◌⊎◌, List, Contains}
use Rattle.grid_cells.specs.Cell.{Point}
use Rattle.grid_cells.specs.Size.{Holds}
use Rattle.grid_cells.specs.Grid.{Chart}
use Rattle.goal_fields.specs.Marks.{IsWhole}
use Rattle.goal_fields.specs.Target.{flag_at}

-- some of the edits are made: `old` is the map before the first, `done` are the cells looked at
pub record IsAdopting (old now target : Chart) (done : List Point) : Type 0 where
  pub size : now.size ≡ old.size
  pub whole : IsWhole now
  pub made : (c : Point) → Holds old.size c → Contains done c → flag_at now c ≡ flag_at target c
  pub either : (c : Point) → Holds old.size c → (flag_at now c ≡ flag_at target c) ⊎ (flag_at now c ≡ flag_at old c)
