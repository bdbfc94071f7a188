-- What is answered to a new path and to a new tail.
use Rattle.std.proofs.Common.{◌≡◌, ℕ, ◌<◌, ◌≤◌, List, length, Some, Ok, Err, refl, ap, subst, ◌∙◌, arith}
use Rattle.std.specs.List.{slice_get}
use Rattle.std.proofs.lemmas.Bool.Decides.{nat_tests}
use Rattle.std.proofs.lemmas.Grind.{common_steps}
use Rattle.std.proofs.lemmas.Option.{gets}
use Rattle.grid_cells.specs.Cell.{Point}
use Rattle.plan_table.specs.Path.{last_index, IsWalkable}
use Rattle.plan_table.specs.Plans.{row_of}
use Rattle.plan_table.specs.declared.plans.Row.{Row}
use Rattle.scene_edits.specs.Scene.{SceneState, AreIn, plan_of}
use Rattle.scene_edits.specs.Paths.{path_of}
use Rattle.scene_edits.specs.Edited.{continued, with_changed, edited}
use Rattle.scene_edits.specs.Faults.{◌otherwise◌, too_long, jump}
use Rattle.scene_edits.specs.Changes.{IsMove}
use Rattle.scene_edits.specs.Answers.{Applied}
use Rattle.scene_edits.specs.Board.{FollowsPath}
use Rattle.scene_edits.specs.declared.edits.Edit.TheVariants.{Path, Tail}
use Rattle.scene_edits.specs.declared.edits.EditFault.{EditFault}
use Rattle.scene_edits.specs.declared.edits.ApplyFault.TheVariants.{Fault}
use Rattle.scene_edits.specs.declared.changes.Change.{Change}
use Rattle.scene_edits.proofs.Jumps.{no_jump}
use Rattle.scene_edits.proofs.AllowedEdits.{neither, known}

-- a list that an agent can follow is short, and has no jump
pub short_and_stepwise : (cells : List Point) → IsWalkable cells → (fault : EditFault) → (too_long cells otherwise jump cells) fault → ⊥
short_and_stepwise cells walks = neither (λ fault told. omega (arith, told.1, walks.short)) (λ fault told. no_jump cells walks.steps told.0 told.2)

module _ (scene new : SceneState) (agent : ℕ) (cells : List Point) (row : Row) (there : row_of scene.rows agent ≡ Some row) (inside : AreIn scene.grid.size cells) where
  pub path_applied : (change : Change) → 0 < length cells → slice_get cells 0 ≡ slice_get row.plan 0 → FollowsPath scene agent cells change new → Applied scene (Path agent cells) (Ok change) new
  path_applied change some start follows = (
    neither (known scene agent row there) (neither (λ fault told. told.1 inside) (neither (λ fault told. omega (arith, some, ap length told.1)) (neither (λ fault told. told.1 (rw there start)) (short_and_stepwise cells follows.walkable)))),
    subst (λ (s : SceneState). IsMove scene s agent change) follows.edited follows.moves,
    follows.edited,
  )

  pub path_refused : (fault : EditFault) → 0 < length cells → slice_get cells 0 ≡ slice_get row.plan 0 → (too_long cells otherwise jump cells) fault → new ≡ scene → Applied scene (Path agent cells) (Err (Fault fault)) new
  path_refused fault some start told same = grind (arith, nat_tests, common_steps, gets)

  pub tail_applied : (from : ℕ) (change : Change) → from ≤ last_index row.plan → FollowsPath scene agent (continued row.plan from cells) change new → Applied scene (Tail agent from cells) (Ok change) new
  tail_applied from change early follows =
      let plan : plan_of scene agent ≡ row.plan = rw there refl in
      let same_rows : with_changed scene.rows agent (λ r. record r { plan = path_of (continued row.plan from cells) }) ≡ with_changed scene.rows agent (λ r. record r { plan = path_of (continued r.plan from cells) }) = rw there refl in
      let is_edited : new ≡ edited scene (Tail agent from cells) = follows.edited ∙ ap (λ (rows : List (ℕ × Row)). record scene { rows = rows }) same_rows in (
        neither (known scene agent row there) (neither (λ fault told. told.1 inside) (neither (λ fault (is, late). let longer : last_index row.plan < from = subst (λ (p : List Point). last_index p < from) plan late in omega arith) (rw plan (short_and_stepwise (continued row.plan from cells) follows.walkable)))),
        subst (λ (s : SceneState). IsMove scene s agent change) is_edited follows.moves,
        is_edited,
      )

  pub tail_refused : (from : ℕ) (fault : EditFault) → from ≤ last_index row.plan → (too_long (continued row.plan from cells) otherwise jump (continued row.plan from cells)) fault → new ≡ scene → Applied scene (Tail agent from cells) (Err (Fault fault)) new
  tail_refused from fault early told same = grind (arith, nat_tests, common_steps, gets)
