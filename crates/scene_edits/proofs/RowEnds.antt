-- Rows of agents above all others, at the end of a table.
use Rattle.std.proofs.Common.{◌≡◌, eqb, true, false, ℕ, suc, ◌+◌, ◌<◌, ◌≤◌, List, [], ◌∷◌, ◌++◌, length, length-take, take, get_or, Some, None, All, inl, inr, refl, sym, ap, subst, ◌∙◌, arith}
use Rattle.std.specs.List.{slice_get}
use Rattle.std.proofs.lemmas.Bool.Decides.{nat_tests, eqb_tells}
use Rattle.std.proofs.lemmas.List.{get_or-take}
use Rattle.std.proofs.lemmas.List.Elements.{All-head, All-tail}
use Rattle.std.proofs.lemmas.List.Kept.{AllPairs-cons}
use Rattle.std.proofs.lemmas.Option.{slice_get_within, get_or_from_slice_get, none-some, same_Some}
use Rattle.grid_cells.specs.Size.{Extent}
use Rattle.grid_cells.specs.Grid.{Chart}
use Rattle.bench_reader.specs.declared.tasks.Task.{Task}
use Rattle.plan_table.specs.Plans.{IsByAgent, agents_of, row_of, ChangesRow}
use Rattle.plan_table.specs.declared.plans.Row.{Row}
use Rattle.plan_table.proofs.Fleets.{row_at_rank}
use Rattle.scene_edits.specs.Scene.{IsRowOn, IsScene}
use Rattle.scene_edits.specs.Edited.{with_row}
use Rattle.scene_edits.specs.Tasks.{rows_from, scene_with, IsTaskOn}
use Rattle.scene_edits.specs.declared.scenes.TheConstants.{MOST_AGENTS}
use Rattle.scene_edits.proofs.RowEdits.{with_row_is}
use Rattle.scene_edits.proofs.KeptScenes.{path_on, rests}
use Rattle.scene_edits.proofs.EditsInOrder.{take-next}
use Rattle.std.proofs.lemmas.List.Elements.{All-cons, All-nil}
use Rattle.grid_cells.specs.Size.{Holds}

-- each agent of the table is below that one
abbrev pub AreBelow : ℕ → List (ℕ × Row) → Type 0
AreBelow agent rows = All (λ entry. entry.0 < agent) rows

pub absent-end : (rows : List (ℕ × Row)) (agent : ℕ) → AreBelow agent rows → row_of rows agent ≡ None
absent-end [] agent below = refl
absent-end (x ∷ rows) agent below = grind (arith, nat_tests, All-head (λ (e : ℕ × Row). e.0 < agent) x rows below, absent-end rows agent (All-tail (λ (e : ℕ × Row). e.0 < agent) x rows below))

with_row-end : (rows : List (ℕ × Row)) (agent : ℕ) (row : Row) → AreBelow agent rows → with_row rows agent row ≡ rows ++ (agent, row) ∷ []
with_row-end [] agent row below = refl
with_row-end (x ∷ rows) agent row below = grind (arith, nat_tests, All-head (λ (e : ℕ × Row). e.0 < agent) x rows below, with_row-end rows agent row (All-tail (λ (e : ℕ × Row). e.0 < agent) x rows below))

pub appended : (old new : List (ℕ × Row)) (agent : ℕ) (row : Row) → AreBelow agent old → IsByAgent old → IsByAgent new → ChangesRow old new agent (Some row) → new ≡ old ++ (agent, row) ∷ []
appended old new agent row below up_old up_new changes = with_row_is old new agent row up_old up_new changes ∙ with_row-end old agent row below

-- the agents before one in order are below it
pub before_is_below : (rows : List (ℕ × Row)) → IsByAgent rows → (rank agent : ℕ) (row : Row) → slice_get rows rank ≡ Some (agent, row) → AreBelow agent (take rank rows)
before_is_below rows up rank agent row there k d h =
    let within = slice_get_within rows rank (agent, row) there in
    let early : k < rank = omega (arith, length-take {A = ℕ × Row}) in
    let here : get_or rows rank d ≡ (agent, row) = get_or_from_slice_get rows rank (agent, row) d there in
    let less : (get_or rows k d).0 < (get_or rows rank d).0 = up k rank d early within in
    rw (get_or-take rank rows k d early) (subst (λ (e : ℕ × Row). (get_or rows k d).0 < e.0) here less)

row_of-first : (agent : ℕ) (row : Row) (rows : List (ℕ × Row)) (a : ℕ) → eqb agent a ≡ true → row_of ((agent, row) ∷ rows) a ≡ Some row
row_of-first agent row rows a is = rw is refl

row_of-later : (agent : ℕ) (row : Row) (rows : List (ℕ × Row)) (a : ℕ) → eqb agent a ≡ false → row_of ((agent, row) ∷ rows) a ≡ row_of rows a
row_of-later agent row rows a other = rw other refl

-- an agent with a task, at rest at its start
abbrev pub resting : Task → Row
resting task = record { goal = task.goal; plan = task.start ∷ [] }

-- tasks: their agents count up
pub rows_from-push : (agent : ℕ) (tasks : List Task) (task : Task) → rows_from agent (tasks ++ task ∷ []) ≡ rows_from agent tasks ++ (agent + length tasks, resting task) ∷ []
rows_from-push agent [] task = let e : agent ≡ agent + 0 = omega arith in ap (λ a. (a, resting task) ∷ []) e
rows_from-push agent (first ∷ later) task =
    let e : suc agent + length later ≡ agent + length (first ∷ later) = omega arith in
    ap (λ (rows : List (ℕ × Row)). (agent, resting first) ∷ rows)
    (rows_from-push (suc agent) later task ∙ ap (λ a. rows_from (suc agent) later ++ (a, resting task) ∷ []) e)

pub length-rows_from : (agent : ℕ) (tasks : List Task) → length (rows_from agent tasks) ≡ length tasks
length-rows_from agent [] = refl
length-rows_from agent (task ∷ later) = omega (arith, length-rows_from (suc agent) later)

pub rows_from-below : (agent : ℕ) (tasks : List Task) → AreBelow (agent + length tasks) (rows_from agent tasks)
rows_from-below agent [] = All-nil _
rows_from-below agent (task ∷ later) =
    let e : suc agent + length later ≡ agent + length (task ∷ later) = omega arith in
    All-cons (λ (entry : ℕ × Row). entry.0 < agent + length (task ∷ later)) (agent, resting task) (rows_from (suc agent) later) (omega arith) (subst (λ n. AreBelow n (rows_from (suc agent) later)) e (rows_from-below (suc agent) later))

rows_from-above : (agent : ℕ) (tasks : List Task) → All (λ (entry : ℕ × Row). agent ≤ entry.0) (rows_from agent tasks)
rows_from-above agent [] = All-nil _
rows_from-above agent (task ∷ later) = All-cons (λ (entry : ℕ × Row). agent ≤ entry.0) (agent, resting task) (rows_from (suc agent) later) (omega arith) (λ k d h. omega (arith, rows_from-above (suc agent) later k d h))

by_agent-rows_from : (agent : ℕ) (tasks : List Task) → IsByAgent (rows_from agent tasks)
by_agent-rows_from agent [] = λ i j d lt within. absurd (omega arith)
by_agent-rows_from agent (task ∷ later) = AllPairs-cons (λ (a b : ℕ × Row). a.0 < b.0) (agent, resting task) (rows_from (suc agent) later) (λ k d h. omega (arith, rows_from-above (suc agent) later k d h)) (by_agent-rows_from (suc agent) later)

rows_from-on : (size : Extent) (agent : ℕ) (tasks : List Task) → All (IsTaskOn size) tasks → (a : ℕ) (row : Row) → row_of (rows_from agent tasks) a ≡ Some row → IsRowOn size row
rows_from-on size agent [] on a row there = absurd (none-some row there)
rows_from-on size agent (task ∷ later) on a row there =
    let held = All-head (IsTaskOn size) task later on in
    elim (eqb_tells agent a) [
      | inl is ↦ subst (IsRowOn size) (same_Some (resting task) row (sym (row_of-first agent (resting task) (rows_from (suc agent) later) a is.0) ∙ there)) (path_on size (task.start ∷ []) task.goal (rests task.start) (All-cons (Holds size) task.start [] held.0 (All-nil (Holds size))) held.1)
      | inr apart ↦ rows_from-on size (suc agent) later (All-tail (IsTaskOn size) task later on) a row (sym (row_of-later agent (resting task) (rows_from (suc agent) later) a apart.0) ∙ there)
    ]

pub scene_of_tasks : (grid : Chart) (tasks : List Task) → length tasks ≤ MOST_AGENTS → All (IsTaskOn grid.size) tasks → IsScene (scene_with grid tasks)
scene_of_tasks grid tasks few on = record {
  by_agent = by_agent-rows_from 0 tasks;
  few = omega (arith, length-rows_from 0 tasks);
  on_map = rows_from-on grid.size 0 tasks on;
}

-- a row by its rank
pub row_by_rank : (rows : List (ℕ × Row)) (rank agent : ℕ) (row : Row) → IsByAgent rows → slice_get (agents_of rows) rank ≡ Some agent → row_of rows agent ≡ Some row → slice_get rows rank ≡ Some (agent, row)
row_by_rank rows rank agent row up at there =
    let (found, is, here) = row_at_rank rows up rank agent at in
    let same : found ≡ row = same_Some found row (sym is ∙ there) in
    here ∙ ap (λ (r : Row). Some (agent, r)) same

pub no_row_missing : (rows : List (ℕ × Row)) (rank agent : ℕ) → IsByAgent rows → slice_get (agents_of rows) rank ≡ Some agent → row_of rows agent ≡ None → ⊥
no_row_missing rows rank agent up at none = let (found, is, here) = row_at_rank rows up rank agent at in none-some found (sym none ∙ is)

pub tasks-more : (tasks : List Task) (index : ℕ) (task : Task) (old new : List (ℕ × Row)) (agent : ℕ) → slice_get tasks index ≡ Some task → agent ≡ index → old ≡ rows_from 0 (take index tasks) → new ≡ old ++ (agent, resting task) ∷ [] → new ≡ rows_from 0 (take (index + 1) tasks)
tasks-more tasks index task old new agent there is before after =
    let within = slice_get_within tasks index task there in
    let number : agent ≡ 0 + length (take index tasks) = omega (arith, length-take {A = Task}) in
    after
    ∙ ap (λ (rows : List (ℕ × Row)). rows ++ (agent, resting task) ∷ []) before
    ∙ ap (λ a. rows_from 0 (take index tasks) ++ (a, resting task) ∷ []) number
    ∙ sym (rows_from-push 0 (take index tasks) task)
    ∙ ap (rows_from 0) (sym (take-next tasks index task there))

pub tasks-below : (tasks : List Task) (index : ℕ) (rows : List (ℕ × Row)) (agent : ℕ) → index < length tasks → agent ≡ index → rows ≡ rows_from 0 (take index tasks) → AreBelow agent rows
tasks-below tasks index rows agent within is same =
    let number : 0 + length (take index tasks) ≡ agent = omega (arith, length-take {A = Task}) in
    subst (AreBelow agent) (sym same) (subst (λ n. AreBelow n (rows_from 0 (take index tasks))) number (rows_from-below 0 (take index tasks)))
