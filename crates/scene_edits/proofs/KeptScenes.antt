-- An edit that is allowed keeps what holds of every scene.
use Rattle.std.proofs.Common.{◌≡◌, Result, Ok, Err, length-append, length-take, ℕ, ◌+◌, ◌<◌, ◌≤◌, ltb, List, [], ◌∷◌, length, take, Some, None, inl, inr, refl, sym, subst, ◌∙◌, arith}
use Rattle.std.specs.List.{filter}
use Rattle.std.proofs.lemmas.Bool.{cases_lt}
use Rattle.std.proofs.lemmas.Bool.Decides.{nat_tests, eqb_tells}
use Rattle.std.proofs.lemmas.List.Elements.{All-head, All-tail, All-take, All-append}
use Rattle.std.proofs.lemmas.Option.{same_Some, none-some, gets}
use Rattle.std.proofs.lemmas.Grind.{common_steps}
use Rattle.grid_cells.specs.Cell.{Point}
use Rattle.grid_cells.specs.Size.{Extent, Holds}
use Rattle.plan_table.specs.Path.{last_index, IsWalkable}
use Rattle.plan_table.specs.Plans.{row_of}
use Rattle.plan_table.specs.declared.plans.Row.{Row}
use Rattle.plan_table.specs.declared.paths.TheConstants.{MOST_LAST_INDEX}
use Rattle.scene_edits.specs.Scene.{SceneState, AreIn, IsRowOn, IsScene, plan_of}
use Rattle.scene_edits.specs.Paths.{path_of}
use Rattle.scene_edits.specs.Edited.{with_row, without_row, with_changed, continued}
use Rattle.scene_edits.specs.Faults.{◌when◌, ◌otherwise◌, unknown, outside, too_long, jump}
use Rattle.scene_edits.specs.Answers.{Applied}
use Rattle.scene_edits.specs.declared.edits.Edit.{Edit}
use Rattle.scene_edits.specs.declared.edits.ApplyFault.{ApplyFault}
use Rattle.scene_edits.specs.declared.edits.ApplyFault.TheVariants.{Fault, OutOfMemory}
use Rattle.scene_edits.specs.declared.changes.Change.{Change}
use Rattle.scene_edits.specs.Laws.{EditsKeepScenes}
use Rattle.scene_edits.specs.declared.scenes.TheConstants.{MOST_AGENTS}
use Rattle.scene_edits.specs.declared.edits.Edit.TheVariants.{Add, Drop, Goal, Path, Tail, Open, Close}
use Rattle.scene_edits.specs.declared.edits.EditFault.{EditFault}
use Rattle.scene_edits.specs.declared.edits.EditFault.TheVariants.{TooManyAgents, OutOfMap, EmptyPath, NotAStep, TooLong}
use Rattle.scene_edits.proofs.RowEdits.{row_of-with_row, row_of-without_row, by_agent-with_row, by_agent-without}
use Rattle.scene_edits.proofs.PathsOf.{path_of-path, path_of-take}
use Rattle.scene_edits.proofs.Jumps.{jump_or_steps}
use Rattle.scene_edits.proofs.Deciding.{in_or_not}

-- where there is no fault at all the first finds none, and neither does the second
pub no_first : (first second : EditFault → Type 0) → ((fault : EditFault) → (first otherwise second) fault → ⊥) → (fault : EditFault) → first fault → ⊥
no_first first second none fault told = none fault (inl told)

pub no_second : (first second : EditFault → Type 0) → ((fault : EditFault) → (first otherwise second) fault → ⊥) → (fault : EditFault) → second fault → ⊥
no_second first second none fault told = none fault (inr (no_first first second none, told))

-- the agent is known
known_row : (scene : SceneState) (agent : ℕ) → ((fault : EditFault) → unknown scene agent fault → ⊥) → (row : Row) × (row_of scene.rows agent ≡ Some row)
known_row scene agent none = grind (arith, nat_tests, common_steps, gets)

inside : (scene : SceneState) (cells : List Point) → ((fault : EditFault) → outside scene cells fault → ⊥) → AreIn scene.grid.size cells
inside scene cells none = elim (in_or_not scene.grid.size cells) [ inl all ↦ all | inr not ↦ absurd (none OutOfMap (refl, not)) ]

can_walk : (cells : List Point) → 0 < length cells → ((fault : EditFault) → (too_long cells otherwise jump cells) fault → ⊥) → IsWalkable cells
can_walk cells some none = record {
  some_cell = some;
  short = elim (cases_lt MOST_LAST_INDEX (last_index cells)) [ inl long ↦ absurd (none TooLong (inl (refl, long))) | inr short ↦ short ];
  steps = elim (jump_or_steps cells) [ inl (at, first) ↦ absurd (no_second _ _ none (NotAStep at) (at, refl, first)) | inr steps ↦ steps ];
}

length-two_filters : (rows : List (ℕ × Row)) (agent : ℕ) → length (filter (λ entry. ltb entry.0 agent) rows) + length (filter (λ entry. ltb agent entry.0) rows) ≤ length rows
length-two_filters [] agent = omega arith
length-two_filters (x ∷ rows) agent = grind (arith, nat_tests, length-two_filters rows agent)

length-two_filters_live : (rows : List (ℕ × Row)) (agent : ℕ) (row : Row) → row_of rows agent ≡ Some row → length (filter (λ entry. ltb entry.0 agent) rows) + length (filter (λ entry. ltb agent entry.0) rows) + 1 ≤ length rows
length-two_filters_live [] agent row there = absurd (none-some row there)
length-two_filters_live (x ∷ rows) agent row there =
    grind (arith, nat_tests, length-two_filters rows agent, length-two_filters_live rows agent row)

length-without : (rows : List (ℕ × Row)) (agent : ℕ) → length (without_row rows agent) ≤ length rows
length-without [] agent = omega arith
length-without (x ∷ rows) agent = grind (arith, nat_tests, length-without rows agent)

some_cell : (cells : List Point) → ((fault : EditFault) → (EmptyPath when (cells ≡ [])) fault → ⊥) → 0 < length cells
some_cell [] none = absurd (none EmptyPath (refl, refl))
some_cell (cell ∷ rest) none = omega arith

pub rests : (cell : Point) → IsWalkable (cell ∷ [])
rests cell = record { some_cell = omega arith; short = omega arith; steps = λ k d h. absurd (omega arith) }

plan_there : (scene : SceneState) (agent : ℕ) (row : Row) → row_of scene.rows agent ≡ Some row → plan_of scene agent ≡ row.plan
plan_there scene agent row there = rw there refl

-- a path on the map
pub path_on : (size : Extent) (cells : List Point) (goal : Point) → IsWalkable cells → AreIn size cells → Holds size goal → IsRowOn size (record { goal = goal; plan = path_of cells })
path_on size cells goal walks all held =
    let (n, is) = path_of-take cells in
    record { path = (path_of-path cells walks).ends; cells = rw is (All-take (Holds size) n cells all); goal = held }

-- a row written into the table
keeps_row : (scene : SceneState) (agent : ℕ) (row : Row) → IsScene scene → length (with_row scene.rows agent row) ≤ MOST_AGENTS → IsRowOn scene.grid.size row → IsScene (record scene { rows = with_row scene.rows agent row })
keeps_row scene agent row is_scene few on = record {
  by_agent = by_agent-with_row scene.rows agent row is_scene.by_agent;
  few = few;
  on_map = λ a found there.
      elim (eqb_tells agent a) [
        | inl is ↦ let here : row_of (with_row scene.rows agent row) a ≡ Some row = row_of-with_row scene.rows agent row a ∙ rw is.0 refl in subst (IsRowOn scene.grid.size) (same_Some row found (sym here ∙ there)) on
        | inr apart ↦ let other : row_of (with_row scene.rows agent row) a ≡ row_of scene.rows a = row_of-with_row scene.rows agent row a ∙ rw apart.0 refl in is_scene.on_map a found (sym other ∙ there)
      ];
}

keeps_changed : (scene : SceneState) (agent : ℕ) (row : Row) (change : Row → Row) → IsScene scene → row_of scene.rows agent ≡ Some row → IsRowOn scene.grid.size (change row) → IsScene (record scene { rows = with_changed scene.rows agent change })
keeps_changed scene agent row change is_scene there on =
    let few : length (with_row scene.rows agent (change row)) ≤ MOST_AGENTS = omega (arith, length-append {A = ℕ × Row}, length-two_filters_live scene.rows agent row there, is_scene.few) in
    rw there (keeps_row scene agent (change row) is_scene few on)

pub edits_keep_scenes_holds : EditsKeepScenes
edits_keep_scenes_holds scene (Add agent start goal) is_scene allowed =
    let after_free = no_second _ _ allowed in
    let all = inside scene (start ∷ goal ∷ []) (no_second _ _ after_free) in
    let room : length scene.rows < MOST_AGENTS = elim (cases_lt (length scene.rows) MOST_AGENTS) [ inl less ↦ less | inr full ↦ absurd (no_first _ _ after_free TooManyAgents (refl, full)) ] in
    let few : length (with_row scene.rows agent (record { goal = goal; plan = start ∷ [] })) ≤ MOST_AGENTS = omega (arith, length-append {A = ℕ × Row}, length-two_filters scene.rows agent) in
    let start_in : AreIn scene.grid.size (start ∷ []) = All-take (Holds scene.grid.size) 1 (start ∷ goal ∷ []) all in
    let goal_in : Holds scene.grid.size goal = All-head (Holds scene.grid.size) goal [] (All-tail (Holds scene.grid.size) start (goal ∷ []) all) in
    keeps_row scene agent (record { goal = goal; plan = start ∷ [] }) is_scene few (path_on scene.grid.size (start ∷ []) goal (rests start) start_in goal_in)
edits_keep_scenes_holds scene (Drop agent) is_scene allowed = record {
  by_agent = by_agent-without scene.rows agent is_scene.by_agent;
  few = omega (arith, length-without scene.rows agent, is_scene.few);
  on_map = λ a found there.
      elim (eqb_tells agent a) [
        | inl is ↦ let none : row_of (without_row scene.rows agent) a ≡ None = row_of-without_row scene.rows agent a ∙ rw is.0 refl in absurd (none-some found (sym none ∙ there))
        | inr apart ↦ let other : row_of (without_row scene.rows agent) a ≡ row_of scene.rows a = row_of-without_row scene.rows agent a ∙ rw apart.0 refl in is_scene.on_map a found (sym other ∙ there)
      ];
}
edits_keep_scenes_holds scene (Goal agent goal) is_scene allowed =
    let (row, there) = known_row scene agent (no_first _ _ allowed) in
    let on = is_scene.on_map agent row there in
    let goal_in = inside scene (goal ∷ []) (no_second _ _ allowed) in
    keeps_changed scene agent row (λ r. record r { goal = goal }) is_scene there (record { path = on.path; cells = on.cells; goal = All-head (Holds scene.grid.size) goal [] goal_in })
edits_keep_scenes_holds scene (Path agent cells) is_scene allowed =
    let (row, there) = known_row scene agent (no_first _ _ allowed) in
    let on = is_scene.on_map agent row there in
    let after_known = no_second _ _ allowed in
    let all = inside scene cells (no_first _ _ after_known) in
    let after_inside = no_second _ _ after_known in
    let some : 0 < length cells = some_cell cells (no_first _ _ after_inside) in
    let walks = can_walk cells some (no_second _ _ (no_second _ _ after_inside)) in
    keeps_changed scene agent row (λ r. record r { plan = path_of cells }) is_scene there (path_on scene.grid.size cells row.goal walks all on.goal)
edits_keep_scenes_holds scene (Tail agent from cells) is_scene allowed =
    let (row, there) = known_row scene agent (no_first _ _ allowed) in
    let on = is_scene.on_map agent row there in
    let after_known = no_second _ _ allowed in
    let all = inside scene cells (no_first _ _ after_known) in
    let plan = plan_there scene agent row there in
    let fits : (fault : EditFault) → (too_long (continued row.plan from cells) otherwise jump (continued row.plan from cells)) fault → ⊥ =
    subst (λ (p : List Point). (fault : EditFault) → (too_long (continued p from cells) otherwise jump (continued p from cells)) fault → ⊥) plan (no_second _ _ (no_second _ _ after_known)) in
    let some : 0 < length (continued row.plan from cells) = omega (arith, length-append {A = Point}, length-take {A = Point}, on.path.walkable.some_cell) in
    let all_on : AreIn scene.grid.size (continued row.plan from cells) = All-append (Holds scene.grid.size) (take (from + 1) row.plan) cells (All-take (Holds scene.grid.size) (from + 1) row.plan on.cells) all in
    keeps_changed scene agent row (λ r. record r { plan = path_of (continued r.plan from cells) }) is_scene there (path_on scene.grid.size (continued row.plan from cells) row.goal (can_walk _ some fits) all_on on.goal)
edits_keep_scenes_holds scene (Open cell) is_scene allowed = record { by_agent = is_scene.by_agent; few = is_scene.few; on_map = is_scene.on_map }
edits_keep_scenes_holds scene (Close cell) is_scene allowed = record { by_agent = is_scene.by_agent; few = is_scene.few; on_map = is_scene.on_map }

-- whatever is answered to an edit, a scene is left
pub applied_keeps : (old : SceneState) (edit : Edit) (result : Result Change ApplyFault) (new : SceneState) → IsScene old → Applied old edit result new → IsScene new
applied_keeps old edit (Ok change) new is_scene (allowed, told, is) = subst IsScene (sym is) (edits_keep_scenes_holds old edit is_scene allowed)
applied_keeps old edit (Err (Fault fault)) new is_scene (told, is) = subst IsScene (sym is) is_scene
applied_keeps old edit (Err OutOfMemory) new is_scene (makes, is) = subst IsScene (sym is) is_scene
