-- What an edit changed is changed back by edits.
use Rattle.std.proofs.Common.{◌≡◌, ℕ, ◌-◌, ◌<◌, min, not, Bool, false, true, List, [], ◌∷◌, length, length-set, Option, Some, None, inl, inr, refl, sym, ap, subst, ◌∙◌, arith}
use Rattle.std.specs.Option.{IsSome, IfSome, IsSomeAnd}
use Rattle.std.specs.Bool.{⊤}
use Rattle.std.specs.List.{slice_get}
use Rattle.std.proofs.Math.Nat.{mul_comm}
use Rattle.std.proofs.lemmas.Nat.{mul-add-lt}
use Rattle.std.proofs.lemmas.Bool.Decides.{nat_tests}
use Rattle.std.proofs.lemmas.List.Elements.{All-cons, All-nil}
use Rattle.std.proofs.lemmas.Option.{gets, same_Some, MatchOption-at_some}
use Rattle.std.proofs.lemmas.Grind.{common_steps}
use Rattle.grid_cells.specs.Cell.{Point}
use Rattle.grid_cells.specs.Size.{Extent, Holds}
use Rattle.grid_cells.specs.Grid.{Chart, IsOpen, IsClosed, flag_index, with_cell}
use Rattle.plan_table.specs.Path.{place}
use Rattle.plan_table.specs.Plans.{row_of}
use Rattle.plan_table.specs.Route.{Route}
use Rattle.plan_table.specs.declared.plans.Row.{Row}
use Rattle.scene_edits.specs.Scene.{SceneState, AreIn, IsScene, start_of}
use Rattle.scene_edits.specs.Paths.{path_of}
use Rattle.scene_edits.specs.Edited.{with_changed, continued, edited}
use Rattle.scene_edits.specs.Faults.{IsAllowed}
use Rattle.scene_edits.specs.Since.{IsSince}
use Rattle.scene_edits.specs.Changes.{IsMove, IsChange}
use Rattle.scene_edits.specs.Board.{FollowsPath}
use Rattle.scene_edits.specs.ChangedBy.{ChangedBy}
use Rattle.scene_edits.specs.Undone.{undone}
use Rattle.scene_edits.specs.Reverted.{IsWhole, IsTurn}
use Rattle.scene_edits.specs.declared.edits.Edit.{Edit}
use Rattle.scene_edits.specs.declared.edits.Edit.TheVariants.{Add, Drop, Goal, Path, Tail, Open, Close}
use Rattle.scene_edits.specs.declared.edits.EditFault.TheVariants.{NotFromStart}
use Rattle.scene_edits.specs.declared.changes.Change.{Change}
use Rattle.scene_edits.specs.declared.changes.Change.TheVariants.{Added, Dropped, Aimed, Moved, Flipped, Same}
use Rattle.scene_edits.proofs.AllowedEdits.{some_there, neither, known}
use Rattle.scene_edits.proofs.Deciding.{same_or_not}
use Rattle.scene_edits.proofs.JoinedChanges.{by_none, by_one}
use Rattle.scene_edits.proofs.KeptScenes.{no_first, no_second, edits_keep_scenes_holds}
use Rattle.scene_edits.proofs.PathEdits.{path_applied}
use Rattle.scene_edits.proofs.PathsOf.{place-path_of}
use Rattle.scene_edits.proofs.TakingBack.{some_and, row_of-with_row_here, open_flag, closed_flag, goes_back}
use Rattle.scene_edits.proofs.ReturnedRows.{path_same, returns}

-- tracks part at the same time, whichever is the later one
since_back : (one two : Route) (since : Option ℕ) → IsSince one two since → IsSince two one since
since_back one two None same = λ time. sym (same time)
since_back one two (Some since) (apart, same) = (λ is. apart (sym is), λ time early. sym (same time early))

first_place : (path : List Point) → place path 0 ≡ slice_get path 0
first_place path = let first : min 0 (length path - 1) ≡ 0 = omega arith in ap (slice_get path) first

-- the path of cells begins where they begin
path_begins : (cells : List Point) → slice_get (path_of cells) 0 ≡ slice_get cells 0
path_begins cells = sym (first_place (path_of cells)) ∙ place-path_of cells 0 ∙ first_place cells

tail_begins : (plan : List Point) (from : ℕ) (cells : List Point) → 0 < length plan → slice_get (continued plan from cells) 0 ≡ slice_get plan 0
tail_begins plan from cells some = grind (arith, nat_tests, common_steps, gets)

on_map : (size : Extent) (cell : Point) → Holds size cell → AreIn size (cell ∷ [])
on_map size cell holds = All-cons (Holds size) cell [] holds (All-nil (Holds size))

-- an agent whose goal changed gets the goal before
aims_back : (before : SceneState) (agent : ℕ) (goal : Point) (row : Row) (turn : List Change) → IsScene before → IsScene (edited before (Goal agent goal)) → row_of before.rows agent ≡ Some row → undone (edited before (Goal agent goal)) (Aimed agent row.goal) ≡ before → IsTurn (edited before (Goal agent goal)) (Aimed agent row.goal) turn → ChangedBy (edited before (Goal agent goal)) turn before
aims_back before agent goal row turn is_scene kept there back turned =
    let after : SceneState = edited before (Goal agent goal) in
    let now : Row = record row { goal = goal } in
    let here : row_of after.rows agent ≡ Some now = rw there (row_of-with_row_here before.rows agent now) in
    let same : turn ≡ Aimed agent goal ∷ [] = subst (λ (o : Option Row). IsSomeAnd o (λ (r : Row). turn ≡ Aimed agent r.goal ∷ [])) here turned in
    let inside : AreIn before.grid.size (row.goal ∷ []) = on_map before.grid.size row.goal (is_scene.on_map agent row there).goal in
    rw same (by_one after before (Goal agent row.goal) (Aimed agent goal) kept (neither (known after agent now here) (λ fault t. t.1 inside), subst (λ (o : Option Row). IsSomeAnd o (λ (r : Row). Aimed agent goal ≡ Aimed agent r.goal)) (sym here) refl, sym back))

-- an agent whose path changed gets the path before
moves_back : (before : SceneState) (rows : List (ℕ × Row)) (agent : ℕ) (change : Change) (turn : List Change) → IsScene before → IsScene (record before { rows = rows }) → (move : IsMove before (record before { rows = rows }) agent change) → slice_get move.before.plan 0 ≡ slice_get move.after.plan 0 → undone (record before { rows = rows }) change ≡ before → IsTurn (record before { rows = rows }) change turn → ChangedBy (record before { rows = rows }) turn before
moves_back before rows agent change turn is_scene kept move begins back is =
    let after : SceneState = record before { rows = rows } in
    let old : Row = move.before in
    let new : Row = move.after in
    let on = is_scene.on_map agent old move.was in
    let told : IsSomeAnd (row_of rows agent) (λ (row : Row). turn ≡ Moved agent row.plan move.since ∷ []) = subst (λ (c : Change). IsTurn after c turn) move.told is in
    let same : turn ≡ Moved agent new.plan move.since ∷ [] = subst (λ (o : Option Row). IsSomeAnd o (λ (row : Row). turn ≡ Moved agent row.plan move.since ∷ [])) move.is told in
    let undoes : record after { rows = with_changed rows agent (λ (r : Row). record r { plan = old.plan }) } ≡ before = subst (λ (c : Change). undone after c ≡ before) move.told back in
    let made : before ≡ record after { rows = with_changed rows agent (λ (r : Row). record r { plan = path_of old.plan }) } = rw (path_same old.plan on.path) (sym undoes) in
    let turned : IsMove after before agent (Moved agent new.plan move.since) = record { before = new; after = old; was = move.is; is = move.was; since = move.since; first = since_back _ _ move.since move.first; told = refl } in
    let follows : FollowsPath after agent old.plan (Moved agent new.plan move.since) before = record { walkable = on.path.walkable; edited = made; moves = turned } in
    rw same (by_one after before (Path agent old.plan) (Moved agent new.plan move.since) kept (path_applied after before agent old.plan new move.is on.cells (Moved agent new.plan move.since) on.path.walkable.some_cell begins follows))

-- the plan that a live agent had, told
pub plan_before : (rows : List (ℕ × Row)) (agent : ℕ) (plan : List Point) (since : Option ℕ) → IsSome (row_of rows agent) → IfSome (row_of rows agent) (λ row. plan ≡ row.plan) → IsSomeAnd (row_of rows agent) (λ (row : Row). Moved agent plan since ∷ [] ≡ Moved agent row.plan since ∷ [])
plan_before rows agent plan since live before =
    let (row, there) = some_there (row_of rows agent) live in
    let same = MatchOption-at_some ⊤ (λ (r : Row). plan ≡ r.plan) row there before in
    rw there (ap (λ (p : List Point). Moved agent p since ∷ []) same)

-- the plan after a change of it
plan_after : (rows : List (ℕ × Row)) (agent : ℕ) (old new : Row) (plan : Row → List Point) → row_of rows agent ≡ Some old → row_of (with_changed rows agent (λ (r : Row). record r { plan = plan r })) agent ≡ Some new → new.plan ≡ plan old
plan_after rows agent old new plan was is =
    let there : row_of (with_changed rows agent (λ (r : Row). record r { plan = plan r })) agent ≡ Some (record old { plan = plan old }) = rw was (row_of-with_row_here rows agent (record old { plan = plan old })) in
    ap (λ (r : Row). r.plan) (same_Some new (record old { plan = plan old }) (sym is ∙ there))

-- the cells of a path that is allowed begin where the agent's path begins
starts_there : (before : SceneState) (agent : ℕ) (cells : List Point) (old : Row) → row_of before.rows agent ≡ Some old → IsAllowed before (Path agent cells) → slice_get cells 0 ≡ slice_get old.plan 0
starts_there before agent cells old was allowed =
    let start : start_of before agent ≡ slice_get old.plan 0 = rw was refl in
    elim (same_or_not (slice_get cells 0) (start_of before agent)) [
      | inl same ↦ same ∙ start
      | inr apart ↦
          let after_known = no_second _ _ allowed in
          let after_inside = no_second _ _ after_known in
          let after_some = no_second _ _ after_inside in
          absurd (no_first _ _ after_some NotFromStart (refl, apart))
    ]

-- a cell that was opened is open, and one that was closed is closed
opened : (grid : Chart) (cell : Point) → Holds grid.size cell → IsWhole (with_cell grid cell true) → IsOpen (with_cell grid cell true) cell
opened grid cell held whole =
    let within : flag_index grid.size cell < length grid.flags = omega (arith, mul-add-lt cell.y grid.size.width cell.x grid.size.height held.1 held.0, mul_comm grid.size.height grid.size.width, whole, length-set grid.flags (flag_index grid.size cell) true) in
    (held, grind (arith, nat_tests, common_steps, gets, within))

closed_again : (grid : Chart) (cell : Point) → IsOpen grid cell → IsClosed (with_cell grid cell false) cell
closed_again grid cell is_open = grind (arith, nat_tests, common_steps, gets)

-- a cell that had its state already
unchanged : (before : SceneState) (edit : Edit) (cell : Point) (change : Change) (turn : List Change) → IsScene before → IsAllowed before edit → IsChange before edit change → change ≡ Same cell → IsTurn (edited before edit) change turn → ChangedBy (edited before edit) turn before
unchanged before edit cell change turn is_scene allowed is told turned =
    let after : SceneState = edited before edit in
    let back : after ≡ before = subst (λ (c : Change). undone after c ≡ before) told (goes_back before edit change is_scene allowed is).back in
    let same : turn ≡ [] = subst (λ (c : Change). IsTurn after c turn) told turned in
    rw same (subst (ChangedBy after []) back (by_none after (edits_keep_scenes_holds before edit is_scene allowed)))

-- the changes of taking back what an edit changed are those of edits
pub turns : (before : SceneState) (edit : Edit) (change : Change) (turn : List Change) → IsScene before → IsAllowed before edit → IsChange before edit change → IsTurn (edited before edit) change turn → ChangedBy (edited before edit) turn before
turns before (Add agent start goal) change turn is_scene allowed is turned =
    let edit : Edit = Add agent start goal in
    let after : SceneState = edited before edit in
    let kept = edits_keep_scenes_holds before edit is_scene allowed in
    let back : undone after (Added agent) ≡ before = subst (λ (c : Change). undone after c ≡ before) is (goes_back before edit change is_scene allowed is).back in
    let (row, there, same) = some_and (row_of after.rows agent) (λ (row : Row). turn ≡ Dropped agent row ∷ []) (subst (λ (c : Change). IsTurn after c turn) is turned) in
    rw same (by_one after before (Drop agent) (Dropped agent row) kept (known after agent row there, subst (λ (o : Option Row). IsSomeAnd o (λ (r : Row). Dropped agent row ≡ Dropped agent r)) (sym there) refl, sym back))
turns before (Drop agent) change turn is_scene allowed is turned =
    let (row, there, told) = some_and (row_of before.rows agent) (λ (row : Row). change ≡ Dropped agent row) is in
    returns before agent row turn is_scene there (edits_keep_scenes_holds before (Drop agent) is_scene allowed) (subst (λ (c : Change). IsTurn (edited before (Drop agent)) c turn) told turned)
turns before (Goal agent goal) change turn is_scene allowed is turned =
    let after : SceneState = edited before (Goal agent goal) in
    let (row, there, told) = some_and (row_of before.rows agent) (λ (row : Row). change ≡ Aimed agent row.goal) is in
    let back : undone after (Aimed agent row.goal) ≡ before = subst (λ (c : Change). undone after c ≡ before) told (goes_back before (Goal agent goal) change is_scene allowed is).back in
    aims_back before agent goal row turn is_scene (edits_keep_scenes_holds before (Goal agent goal) is_scene allowed) there back (subst (λ (c : Change). IsTurn after c turn) told turned)
turns before (Path agent cells) change turn is_scene allowed is turned =
    let edit : Edit = Path agent cells in
    let new : is.after.plan ≡ path_of cells = plan_after before.rows agent is.before is.after (λ (r : Row). path_of cells) is.was is.is in
    let begins : slice_get is.before.plan 0 ≡ slice_get is.after.plan 0 = sym (starts_there before agent cells is.before is.was allowed) ∙ sym (path_begins cells) ∙ ap (λ (p : List Point). slice_get p 0) (sym new) in
    moves_back before (edited before edit).rows agent change turn is_scene (edits_keep_scenes_holds before edit is_scene allowed) is begins (goes_back before edit change is_scene allowed is).back turned
turns before (Tail agent from cells) change turn is_scene allowed is turned =
    let edit : Edit = Tail agent from cells in
    let some = (is_scene.on_map agent is.before is.was).path.walkable.some_cell in
    let new : is.after.plan ≡ path_of (continued is.before.plan from cells) = plan_after before.rows agent is.before is.after (λ (r : Row). path_of (continued r.plan from cells)) is.was is.is in
    let begins : slice_get is.before.plan 0 ≡ slice_get is.after.plan 0 = sym (tail_begins is.before.plan from cells some) ∙ sym (path_begins (continued is.before.plan from cells)) ∙ ap (λ (p : List Point). slice_get p 0) (sym new) in
    moves_back before (edited before edit).rows agent change turn is_scene (edits_keep_scenes_holds before edit is_scene allowed) is begins (goes_back before edit change is_scene allowed is).back turned
turns before (Open cell) change turn is_scene allowed (inl (closed, told)) turned =
    let after : SceneState = edited before (Open cell) in
    let back : undone after (Flipped cell) ≡ before = subst (λ (c : Change). undone after c ≡ before) told (goes_back before (Open cell) change is_scene allowed (inl (closed, told))).back in
    let (whole, same) = subst (λ (c : Change). IsTurn after c turn) told turned in
    let is_open : IsOpen after.grid cell = opened before.grid cell closed.0 whole in
    let made : edited after (Close cell) ≡ before = subst (λ (b : Bool). record after { grid = with_cell after.grid cell (not b) } ≡ before) (open_flag after.grid cell is_open) back in
    rw same (by_one after before (Close cell) (Flipped cell) (edits_keep_scenes_holds before (Open cell) is_scene allowed) (λ fault t. t.1 (on_map before.grid.size cell closed.0), inl (is_open, refl), sym made))
turns before (Open cell) change turn is_scene allowed (inr (is_open, told)) turned = unchanged before (Open cell) cell change turn is_scene allowed (inr (is_open, told)) told turned
turns before (Close cell) change turn is_scene allowed (inl (is_open, told)) turned =
    let after : SceneState = edited before (Close cell) in
    let back : undone after (Flipped cell) ≡ before = subst (λ (c : Change). undone after c ≡ before) told (goes_back before (Close cell) change is_scene allowed (inl (is_open, told))).back in
    let closed : IsClosed after.grid cell = closed_again before.grid cell is_open in
    let made : edited after (Open cell) ≡ before = subst (λ (b : Bool). record after { grid = with_cell after.grid cell (not b) } ≡ before) (closed_flag after.grid cell closed) back in
    let (whole, same) = subst (λ (c : Change). IsTurn after c turn) told turned in
    rw same (by_one after before (Open cell) (Flipped cell) (edits_keep_scenes_holds before (Close cell) is_scene allowed) (λ fault t. t.1 (on_map before.grid.size cell is_open.0), inl (closed, refl), sym made))
turns before (Close cell) change turn is_scene allowed (inr (closed, told)) turned = unchanged before (Close cell) cell change turn is_scene allowed (inr (closed, told)) told turned
