-- Where the rows of a table put their agents, on their paths and at rest.
use Rattle.std.proofs.Common.{◌≡◌, ℕ, ◌≤◌, List, Some, None, Option, Bool, true, eqb, ◌&&◌, refl, sym, ◌∙◌, arith}
use Rattle.std.proofs.lemmas.Bool.Decides.{nat_tests}
use Rattle.std.specs.Prelude.{IsTrue}
use Rattle.grid_cells.specs.Cell.{Point}
use Rattle.plan_table.specs.Path.{last_index, place}
use Rattle.plan_table.specs.Plans.{row_of}
use Rattle.plan_table.specs.Route.{position_of, last_of, Leaves, leaves_in, tracks_of, route_in}
use Rattle.plan_table.specs.declared.plans.Row.{Row}
use Rattle.plan_table.specs.declared.tracks.Mode.{Mode}
use Rattle.plan_table.proofs.Fleets.{position_on_path, position_rests, position_staying, position_gone, leaver_early, true_or_not}
use Rattle.desk_audit.specs.Index.{IsOnPath, HasComeToRest}

-- an agent on its path has a row, and is at its path's place
pub record OnRow (rows : List (ℕ × Row)) (agent time : ℕ) (cell : Point) : Type 0 where
  pub row : Row
  pub live : row_of rows agent ≡ Some row
  pub early : time ≤ last_index row.plan
  pub there : place row.plan time ≡ Some cell

-- up to its last index an agent with a row is at its path's place
pub on_path : (mode : Mode) (rows : List (ℕ × Row)) (agent time : ℕ) (row : Row) → row_of rows agent ≡ Some row → time ≤ last_index row.plan → position_of (tracks_of mode rows) agent time ≡ place row.plan time
on_path mode rows agent time row live early = rw live (position_on_path (route_in mode row) time early)

pub on_row : (mode : Mode) (rows : List (ℕ × Row)) (agent time : ℕ) (cell : Point) → IsOnPath (tracks_of mode rows) agent time cell → OnRow rows agent time cell
on_row mode rows agent time cell is = by_row (row_of rows agent) refl
  where
    by_row : (o : Option Row) → row_of rows agent ≡ o → OnRow rows agent time cell
    by_row None e = absurd (grind (arith, is.1))
    by_row (Some row) e =
        let early : time ≤ last_index row.plan = grind (arith, is.0) in
        record { row = row; live = e; early = early; there = sym (on_path mode rows agent time row e early) ∙ is.1 }

pub last_of_row : (mode : Mode) (rows : List (ℕ × Row)) (agent : ℕ) (row : Row) → row_of rows agent ≡ Some row → last_of (tracks_of mode rows) agent ≡ last_index row.plan
last_of_row mode rows agent row live = rw live refl

pub leaves_of_row : (mode : Mode) (rows : List (ℕ × Row)) (agent : ℕ) (row : Row) → row_of rows agent ≡ Some row → IsTrue (leaves_in mode row) → Leaves (tracks_of mode rows) agent
leaves_of_row mode rows agent row live leaves = rw live leaves

-- an agent at rest never leaves
pub rests_stay : (mode : Mode) (rows : List (ℕ × Row)) (agent time : ℕ) (cell : Point) → HasComeToRest (tracks_of mode rows) agent time cell → Leaves (tracks_of mode rows) agent → ⊥
rests_stay mode rows agent time cell is leaves = omega (arith, is.0, leaver_early (tracks_of mode rows) agent time cell leaves is.1)

-- and is at its path's last place
pub rests_at_last : (mode : Mode) (rows : List (ℕ × Row)) (agent time : ℕ) (cell : Point) (row : Row) → row_of rows agent ≡ Some row → HasComeToRest (tracks_of mode rows) agent time cell → place row.plan (last_index row.plan) ≡ Some cell
rests_at_last mode rows agent time cell row live is =
    let last = last_of_row mode rows agent row live in
    sym (on_path mode rows agent (last_index row.plan) row live (omega arith)) ∙ sym (position_rests (tracks_of mode rows) agent (last_index row.plan) time
    (rests_stay mode rows agent time cell is) (omega arith) (omega (arith, is.0))) ∙ is.1

-- where an agent with a row is, its path's place is
pub place_of_position : (mode : Mode) (rows : List (ℕ × Row)) (agent time : ℕ) (cell : Point) (row : Row) → row_of rows agent ≡ Some row → position_of (tracks_of mode rows) agent time ≡ Some cell → place row.plan time ≡ Some cell
place_of_position mode rows agent time cell row live there =
    let r = route_in mode row in
    grind (arith, true_or_not (leaves_in mode row), position_staying r, position_on_path r time, position_gone r)

pub same_cell : (a b : Point) (same : Bool) → same ≡ (eqb a.y b.y && eqb a.x b.x) → same ≡ true → a ≡ b
same_cell a b same is holds = grind (arith, nat_tests)
