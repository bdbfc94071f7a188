-- Maps that differ in one cell, and ledgers with no agent.
use Rattle.std.proofs.Common.{◌≡◌, ◌≢◌, ℕ, Bool, List, [], Some, arith}
use Rattle.std.proofs.lemmas.Option.{gets}
use Rattle.std.proofs.lemmas.Grind.{common_steps}
use Rattle.std.proofs.lemmas.List.{get_or-set_other}
use Rattle.std.proofs.Math.ListN.{set}
use Rattle.std.specs.List.{slice_get}
use Rattle.std.proofs.lemmas.Nat.{same_from_place}
use Rattle.grid_cells.specs.Cell.{Point}
use Rattle.grid_cells.specs.Size.{Extent, Holds}
use Rattle.grid_cells.specs.Grid.{Chart, flag_index}
use Rattle.plan_table.specs.Plans.{row_of}
use Rattle.plan_table.specs.declared.plans.Row.{Row}
use Rattle.cost_ledger.specs.Laws.{EmptyStandsForAll, SettingChangesOne}

-- an element after a write at another place
set_elsewhere : (xs : List Bool) (i j : ℕ) (v : Bool) → j ≢ i → slice_get (set xs i v) j ≡ slice_get xs j
set_elsewhere xs i j v apart = grind (arith, common_steps, gets, get_or-set_other)

-- two cells of a map have one flag only if they are one
same_cell : (size : Extent) (a b : Point) → Holds size a → Holds size b → flag_index size a ≡ flag_index size b → a ≡ b
same_cell size a b p q e =
    let s : (a.y ≡ b.y) × (a.x ≡ b.x) = same_from_place a.y a.x b.y b.x size.width p.0 q.0 e in
    λ i. record { x = s.1 i; y = s.0 i }

other_flag : (grid : Chart) (cell other : Point) (free : Bool) → Holds grid.size cell → Holds grid.size other → other ≢ cell → slice_get (set grid.flags (flag_index grid.size cell) free) (flag_index grid.size other) ≡ slice_get grid.flags (flag_index grid.size other)
other_flag grid cell other free held_cell held_other apart =
    set_elsewhere grid.flags (flag_index grid.size cell) (flag_index grid.size other) free (λ e. apart (same_cell grid.size other cell held_other held_cell e))

pub setting : SettingChangesOne
setting grid cell free held other apart = grind (arith, other_flag grid cell other free held)

no_row : {G : Type 0} (rows : List (ℕ × Row)) (agent : ℕ) (row : Row) → rows ≡ [] → row_of rows agent ≡ Some row → G
no_row rows agent row none live = absurd (grind arith)

pub empty : EmptyStandsForAll
empty ledger one other none stands = record {
  ascending = stands.ascending;
  exact = λ v. (
    (λ h. let is = (stands.exact v).0 h in no_row ledger.rows v.agent is.row none is.live),
    (λ is. no_row ledger.rows v.agent is.row none is.live),
  );
}
