-- An agent that was dropped, and comes back with its row.
use Rattle.std.proofs.Common.{◌≡◌, ℕ, ◌<◌, ◌≤◌, false, List, [], ◌∷◌, length, Some, None, Ok, refl, sym, ap, subst, ◌∙◌, arith}
use mathlib.Core.Bool.{false≢true}
use Rattle.std.specs.Option.{is_some}
use Rattle.std.specs.List.{slice_get}
use Rattle.std.proofs.lemmas.Bool.Decides.{nat_tests}
use Rattle.std.proofs.lemmas.List.Elements.{All-cons, All-head, All-nil}
use Rattle.std.proofs.lemmas.Option.{same_Some, none-some}
use Rattle.grid_cells.specs.Cell.{Point}
use Rattle.grid_cells.specs.Size.{Extent, Holds}
use Rattle.plan_table.specs.Path.{IsPath}
use Rattle.plan_table.specs.Plans.{IsByAgent, row_of}
use Rattle.plan_table.specs.declared.plans.Row.{Row}
use Rattle.plan_table.proofs.OneTable.{one_table_holds}
use Rattle.scene_edits.specs.Scene.{SceneState, AreIn, IsScene}
use Rattle.scene_edits.specs.Paths.{path_of}
use Rattle.scene_edits.specs.Edited.{with_row, without_row, with_changed, edited}
use Rattle.scene_edits.specs.Faults.{IsAllowed}
use Rattle.scene_edits.specs.Answers.{Applied}
use Rattle.scene_edits.specs.Board.{FollowsPath}
use Rattle.scene_edits.specs.ChangedBy.{ChangedBy}
use Rattle.scene_edits.specs.Reverted.{IsReturn}
use Rattle.scene_edits.specs.declared.scenes.TheConstants.{MOST_AGENTS}
use Rattle.scene_edits.specs.declared.edits.Edit.TheVariants.{Add, Drop, Path}
use Rattle.scene_edits.specs.declared.changes.Change.{Change}
use Rattle.scene_edits.specs.declared.changes.Change.TheVariants.{Added, Moved}
use Rattle.scene_edits.proofs.AllowedEdits.{neither}
use Rattle.scene_edits.proofs.JoinedChanges.{by_one, by_both}
use Rattle.scene_edits.proofs.KeptScenes.{edits_keep_scenes_holds}
use Rattle.scene_edits.proofs.PathEdits.{path_applied}
use Rattle.scene_edits.proofs.PathsOf.{path_of-is}
use Rattle.scene_edits.proofs.RowEdits.{row_of-with_row, row_of-without_row, by_agent-with_row, by_agent-without}
use Rattle.scene_edits.proofs.TakingBack.{row_of-with_row_here}

-- a path is the path of its cells
pub path_same : (path : List Point) → IsPath path → path_of path ≡ path
path_same path is = sym (path_of-is path path is.walkable (record { same = λ time. refl; ends = is }))

length-without : (rows : List (ℕ × Row)) (agent : ℕ) → length (without_row rows agent) ≤ length rows
length-without [] agent = omega arith
length-without (entry ∷ rows) agent = grind (arith, nat_tests, length-without rows agent)

-- one row fewer without that of a live agent
length-without_live : (rows : List (ℕ × Row)) (agent : ℕ) (row : Row) → row_of rows agent ≡ Some row → length (without_row rows agent) < length rows
length-without_live [] agent row there = absurd (none-some row there)
length-without_live (entry ∷ rows) agent row there = grind (arith, nat_tests, length-without_live rows agent row, length-without rows agent)

-- a row that was taken out, put back as another and changed to what it was
put_back : (rows : List (ℕ × Row)) (agent : ℕ) (row other : Row) → IsByAgent rows → row_of rows agent ≡ Some row → with_row (with_row (without_row rows agent) agent other) agent row ≡ rows
put_back rows agent row other up there =
    let less : List (ℕ × Row) = without_row rows agent in
    let more : List (ℕ × Row) = with_row less agent other in
    let up_more : IsByAgent more = by_agent-with_row less agent other (by_agent-without rows agent up) in
    one_table_holds (with_row more agent row) rows (by_agent-with_row more agent row up_more) up (λ q.
    grind (arith, nat_tests, row_of-with_row more agent row q, row_of-with_row less agent other q, row_of-without_row rows agent q, there))

first_in : (size : Extent) (cells : List Point) (cell : Point) → AreIn size cells → slice_get cells 0 ≡ Some cell → Holds size cell
first_in size [] cell all begins = absurd (none-some cell begins)
first_in size (first ∷ rest) cell all begins = subst (Holds size) (same_Some first cell begins) (All-head (Holds size) first rest all)

-- an agent that was dropped is added at the start of its path, and gets its path
pub returns : (before : SceneState) (agent : ℕ) (row : Row) (turn : List Change) → IsScene before → row_of before.rows agent ≡ Some row → IsScene (edited before (Drop agent)) → IsReturn before.mode agent row turn → ChangedBy (edited before (Drop agent)) turn before
returns before agent row turn is_scene there kept is =
    let on = is_scene.on_map agent row there in
    let after : SceneState = edited before (Drop agent) in
    let resting : Row = record row { plan = is.start ∷ [] } in
    let middle : SceneState = edited after (Add agent is.start row.goal) in
    let free : row_of after.rows agent ≡ None = grind (arith, nat_tests, row_of-without_row before.rows agent agent) in
    let few : length after.rows < MOST_AGENTS = omega (arith, length-without_live before.rows agent row there, is_scene.few) in
    let inside : AreIn before.grid.size (is.start ∷ row.goal ∷ []) = All-cons (Holds before.grid.size) is.start (row.goal ∷ []) (first_in before.grid.size row.plan is.start on.cells is.begins) (All-cons (Holds before.grid.size) row.goal [] on.goal (All-nil (Holds before.grid.size))) in
    let can_add : IsAllowed after (Add agent is.start row.goal) = neither (λ fault told. let live = told.1 in let none : is_some (row_of after.rows agent) ≡ false = rw free refl in false≢true (sym none ∙ live)) (neither (λ fault told. omega (arith, told.1)) (λ fault told. told.1 inside)) in
    let added : Applied after (Add agent is.start row.goal) (Ok (Added agent)) middle = (can_add, refl, refl) in
    let here : row_of middle.rows agent ≡ Some resting = row_of-with_row_here after.rows agent resting in
    let change : Change = Moved agent (is.start ∷ []) is.since in
    let rows : with_changed middle.rows agent (λ (r : Row). record r { plan = row.plan }) ≡ before.rows = rw here (put_back before.rows agent row resting is_scene.by_agent there) in
    let made : before ≡ record middle { rows = with_changed middle.rows agent (λ (r : Row). record r { plan = path_of row.plan }) } = rw (path_same row.plan on.path) (ap (λ (list : List (ℕ × Row)). record before { rows = list }) (sym rows)) in
    let follows : FollowsPath middle agent row.plan change before = record { walkable = on.path.walkable; edited = made; moves = record { before = resting; after = row; was = here; is = there; since = is.since; first = is.first; told = refl } } in
    let moved : Applied middle (Path agent row.plan) (Ok change) before = path_applied middle before agent row.plan resting here on.cells change on.path.walkable.some_cell is.begins follows in
    rw is.told (by_both after middle before (Added agent ∷ []) (change ∷ []) (by_one after middle (Add agent is.start row.goal) (Added agent) kept added) (by_one middle before (Path agent row.plan) change (edits_keep_scenes_holds after (Add agent is.start row.goal) kept can_add) moved))
