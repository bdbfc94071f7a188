-- A change that is taken back gives the scene before it.
use Rattle.std.proofs.Common.{◌≡◌, ℕ, zero, suc, ◌<◌, Bool, true, false, not, List, [], ◌∷◌, length, get_or, set, Option, Some, None, inl, inr, refl, sym, ap, subst, arith}
use Rattle.std.specs.Option.{IsSome, IsSomeAnd}
use Rattle.std.proofs.lemmas.Bool.Decides.{nat_tests}
use Rattle.std.proofs.lemmas.Option.{get_or_from_slice_get, gets}
use Rattle.std.proofs.lemmas.Grind.{common_steps}
use Rattle.grid_cells.specs.Cell.{Point}
use Rattle.grid_cells.specs.Grid.{Chart, IsOpen, IsClosed, flag_index, with_cell}
use Rattle.plan_table.specs.Plans.{IsByAgent, row_of}
use Rattle.plan_table.specs.declared.plans.Row.{Row}
use Rattle.plan_table.proofs.OneTable.{one_table_holds}
use Rattle.scene_edits.specs.Scene.{SceneState, IsScene}
use Rattle.scene_edits.specs.Paths.{path_of}
use Rattle.scene_edits.specs.Edited.{with_row, without_row, with_changed, continued, edited}
use Rattle.scene_edits.specs.Faults.{IsAllowed}
use Rattle.scene_edits.specs.Changes.{IsMove, IsChange}
use Rattle.scene_edits.specs.Undone.{undone, IsUndoable}
use Rattle.scene_edits.specs.declared.edits.Edit.{Edit}
use Rattle.scene_edits.specs.declared.edits.Edit.TheVariants.{Add, Drop, Goal, Path, Tail, Open, Close}
use Rattle.scene_edits.specs.declared.edits.EditFault.TheVariants.{AgentTaken}
use Rattle.scene_edits.specs.declared.changes.Change.{Change}
use Rattle.scene_edits.specs.declared.changes.Change.TheVariants.{Dropped, Aimed, Moved, Flipped, Same}
use Rattle.scene_edits.proofs.RowEdits.{row_of-with_row, row_of-without_row, by_agent-with_row, by_agent-without}

-- a flag written again as it was
set-same : (flags : List Bool) (i : ℕ) (flag : Bool) → (i < length flags → get_or flags i false ≡ flag) → set flags i flag ≡ flags
set-same [] i flag is = refl
set-same (first ∷ flags) zero flag is = ap (λ b. b ∷ flags) (sym (is (omega arith)))
set-same (first ∷ flags) (suc i) flag is = ap (λ (l : List Bool). first ∷ l) (set-same flags i flag (λ within. is (omega arith)))

pub none_live : {X : Type 0} (o : Option X) → (IsSome o → ⊥) → o ≡ None
none_live None never = refl
none_live (Some x) never = absurd (never refl)

pub some_and : {X : Type 0} (o : Option X) (P : X → Type 0) → IsSomeAnd o P → (x : X) × (o ≡ Some x) × P x
some_and None P never = absurd never
some_and (Some x) P holds = (x, refl, holds)

-- a new row taken out again
without_with_row : (rows : List (ℕ × Row)) (agent : ℕ) (row : Row) → IsByAgent rows → row_of rows agent ≡ None → without_row (with_row rows agent row) agent ≡ rows
without_with_row rows agent row up free = one_table_holds (without_row (with_row rows agent row) agent) rows (by_agent-without (with_row rows agent row) agent (by_agent-with_row rows agent row up)) up (λ q.
    grind (arith, nat_tests, row_of-without_row (with_row rows agent row) agent q, row_of-with_row rows agent row q, free))

-- a row that was taken out put back
with_without_row : (rows : List (ℕ × Row)) (agent : ℕ) (row : Row) → IsByAgent rows → row_of rows agent ≡ Some row → with_row (without_row rows agent) agent row ≡ rows
with_without_row rows agent row up there = one_table_holds (with_row (without_row rows agent) agent row) rows (by_agent-with_row (without_row rows agent) agent row (by_agent-without rows agent up)) up (λ q.
    grind (arith, nat_tests, row_of-with_row (without_row rows agent) agent row q, row_of-without_row rows agent q, there))

-- a row that was changed set back
with_row-twice : (rows : List (ℕ × Row)) (agent : ℕ) (row other : Row) → IsByAgent rows → row_of rows agent ≡ Some row → with_row (with_row rows agent other) agent row ≡ rows
with_row-twice rows agent row other up there = one_table_holds (with_row (with_row rows agent other) agent row) rows (by_agent-with_row (with_row rows agent other) agent row (by_agent-with_row rows agent other up)) up (λ q.
    grind (arith, nat_tests, row_of-with_row (with_row rows agent other) agent row q, row_of-with_row rows agent other q, there))

pub row_of-with_row_here : (rows : List (ℕ × Row)) (agent : ℕ) (row : Row) → row_of (with_row rows agent row) agent ≡ Some row
row_of-with_row_here rows agent row = grind (arith, nat_tests, row_of-with_row rows agent row agent)

with_changed-back : (rows : List (ℕ × Row)) (agent : ℕ) (row : Row) (change back : Row → Row) → IsByAgent rows → row_of rows agent ≡ Some row → back (change row) ≡ row → with_changed (with_changed rows agent change) agent back ≡ rows
with_changed-back rows agent row change back up there same =
    rw (there, row_of-with_row_here rows agent (change row), same) (with_row-twice rows agent row (change row) up there)

-- a flag that changed, changed again
set-twice : (flags : List Bool) (i : ℕ) (flag : Bool) → (i < length flags → get_or flags i false ≡ not flag) → set (set flags i flag) i (not (get_or (set flags i flag) i false)) ≡ flags
set-twice [] i flag was = refl
set-twice (first ∷ flags) zero flag was = ap (λ b. b ∷ flags) (sym (was (omega arith)))
set-twice (first ∷ flags) (suc i) flag was = ap (λ (l : List Bool). first ∷ l) (set-twice flags i flag (λ within. was (omega arith)))

pub closed_flag : (grid : Chart) (cell : Point) → IsClosed grid cell → get_or grid.flags (flag_index grid.size cell) false ≡ false
closed_flag grid cell closed = grind (arith, nat_tests, common_steps, gets)

pub open_flag : (grid : Chart) (cell : Point) → IsOpen grid cell → get_or grid.flags (flag_index grid.size cell) false ≡ true
open_flag grid cell is_open = get_or_from_slice_get grid.flags (flag_index grid.size cell) true false is_open.1

with_cell-same : (grid : Chart) (cell : Point) (flag : Bool) → get_or grid.flags (flag_index grid.size cell) false ≡ flag → with_cell grid cell flag ≡ grid
with_cell-same grid cell flag is = ap (λ (flags : List Bool). record grid { flags = flags }) (set-same grid.flags (flag_index grid.size cell) flag (λ _. is))

-- the change of a cell, taken back
cell_back : (scene : SceneState) (cell : Point) (flag : Bool) → get_or scene.grid.flags (flag_index scene.grid.size cell) false ≡ not flag → undone (record scene { grid = with_cell scene.grid cell flag }) (Flipped cell) ≡ scene
cell_back scene cell flag was = ap (λ (flags : List Bool). record scene { grid = record scene.grid { flags = flags } }) (set-twice scene.grid.flags (flag_index scene.grid.size cell) flag (λ _. was))

cell_same : (scene : SceneState) (cell : Point) (flag : Bool) → get_or scene.grid.flags (flag_index scene.grid.size cell) false ≡ flag → undone (record scene { grid = with_cell scene.grid cell flag }) (Same cell) ≡ scene
cell_same scene cell flag is = ap (λ (grid : Chart). record scene { grid = grid }) (with_cell-same scene.grid cell flag is)

-- a scene is its rows, its map and its mode
rows_back : (scene : SceneState) (rows : List (ℕ × Row)) → rows ≡ scene.rows → record scene { rows = rows } ≡ scene
rows_back scene rows same = ap (λ (r : List (ℕ × Row)). record scene { rows = r }) same

-- the change is one that can be taken back, and taken back it gives the scene before
pub record GoesBack (scene : SceneState) (edit : Edit) (change : Change) : Type 0 where
  pub back : undone (edited scene edit) change ≡ scene
  pub ready : IsUndoable (edited scene edit) change

moved_back : (scene : SceneState) (edit : Edit) (agent : ℕ) (change : Change) (new_plan : Row → List Point) → IsScene scene → edited scene edit ≡ record scene { rows = with_changed scene.rows agent (λ row. record row { plan = new_plan row }) } → IsMove scene (edited scene edit) agent change → GoesBack scene edit change
moved_back scene edit agent change new_plan is_scene is moves =
    let plan : Row → Row = λ row. record row { plan = new_plan row } in
    let after : SceneState = record scene { rows = with_changed scene.rows agent plan } in
    let told : Change = Moved agent moves.before.plan moves.since in
    let back : undone after told ≡ scene = rows_back scene _ (with_changed-back scene.rows agent moves.before plan (λ row. record row { plan = moves.before.plan }) is_scene.by_agent moves.was refl) in
    let ready : IsUndoable after told = rw (moves.was, row_of-with_row_here scene.rows agent (plan moves.before)) refl in
    subst (GoesBack scene edit) (sym moves.told) (record {
      back = subst (λ s. undone s told ≡ scene) (sym is) back;
      ready = subst (λ s. IsUndoable s told) (sym is) ready;
    })

pub goes_back : (scene : SceneState) (edit : Edit) (change : Change) → IsScene scene → IsAllowed scene edit → IsChange scene edit change → GoesBack scene edit change
goes_back scene (Add agent start goal) change is_scene allowed is =
    let row : Row = record { goal = goal; plan = start ∷ [] } in
    let free = none_live (row_of scene.rows agent) (λ live. allowed AgentTaken (inl (refl, live))) in
    rw is (record {
      back = rows_back scene _ (without_with_row scene.rows agent row is_scene.by_agent free);
      ready = rw (row_of-with_row_here scene.rows agent row) refl;
    })
goes_back scene (Drop agent) change is_scene allowed is =
    let (row, there, told) = some_and (row_of scene.rows agent) (λ row. change ≡ Dropped agent row) is in
    rw told (record {
      back = rows_back scene _ (with_without_row scene.rows agent row is_scene.by_agent there);
      ready = grind (arith, nat_tests, row_of-without_row scene.rows agent agent);
    })
goes_back scene (Goal agent goal) change is_scene allowed is =
    let (row, there, told) = some_and (row_of scene.rows agent) (λ row. change ≡ Aimed agent row.goal) is in
    rw told (record {
      back = rows_back scene _ (with_changed-back scene.rows agent row (λ r. record r { goal = goal }) (λ r. record r { goal = row.goal }) is_scene.by_agent there refl);
      ready = rw (there, row_of-with_row_here scene.rows agent (record row { goal = goal })) refl;
    })
goes_back scene (Path agent cells) change is_scene allowed is = moved_back scene (Path agent cells) agent change (λ row. path_of cells) is_scene refl is
goes_back scene (Tail agent from cells) change is_scene allowed is = moved_back scene (Tail agent from cells) agent change (λ row. path_of (continued row.plan from cells)) is_scene refl is
goes_back scene (Open cell) change is_scene allowed (inl (closed, told)) = rw told (record { back = cell_back scene cell true (closed_flag scene.grid cell closed); ready = closed.0 })
goes_back scene (Open cell) change is_scene allowed (inr (is_open, told)) = rw told (record { back = cell_same scene cell true (open_flag scene.grid cell is_open); ready = tt })
goes_back scene (Close cell) change is_scene allowed (inl (is_open, told)) = rw told (record { back = cell_back scene cell false (open_flag scene.grid cell is_open); ready = is_open.0 })
goes_back scene (Close cell) change is_scene allowed (inr (closed, told)) = rw told (record { back = cell_same scene cell false (closed_flag scene.grid cell closed); ready = tt })
