-- What is answered to an edit that is allowed.
use Rattle.std.proofs.Common.{◌≡◌, ◌∙◌, sym, false, inl, inr, ℕ, ◌<◌, length, arith, List, [], ◌∷◌, Option, Some, None, Ok, refl, ap, subst}
use mathlib.Core.Bool.{false≢true}
use Rattle.std.specs.Option.{is_some, IsSome, IfSome}
use Rattle.std.specs.Bool.{⊤}
use Rattle.std.proofs.lemmas.Option.{MatchOption-at_some}
use Rattle.grid_cells.specs.Cell.{Point}
use Rattle.plan_table.specs.Plans.{IsByAgent, row_of, ChangesRow}
use Rattle.plan_table.specs.declared.plans.Row.{Row}
use Rattle.scene_edits.specs.Scene.{SceneState, AreIn}
use Rattle.scene_edits.specs.Faults.{◌otherwise◌, unknown}
use Rattle.scene_edits.specs.declared.scenes.TheConstants.{MOST_AGENTS}
use Rattle.scene_edits.specs.declared.edits.EditFault.{EditFault}
use Rattle.scene_edits.specs.Answers.{Applied}
use Rattle.scene_edits.specs.declared.edits.Edit.TheVariants.{Add, Drop, Goal}
use Rattle.scene_edits.specs.declared.changes.Change.{Change}
use Rattle.scene_edits.specs.declared.changes.Change.TheVariants.{Added, Dropped, Aimed}
use Rattle.scene_edits.specs.Edited.{with_changed}
use Rattle.scene_edits.specs.Changes.{IsMove}
use Rattle.scene_edits.specs.Board.{FollowsPath}
use Rattle.plan_table.specs.Path.{IsWalkable, IsPathOf}
use Rattle.scene_edits.proofs.PathsOf.{path_of-is}
use Rattle.scene_edits.proofs.RowEdits.{with_row_is, without_row_is, with_changed_is}

pub some_there : {X : Type 0} (o : Option X) → IsSome o → (x : X) × (o ≡ Some x)
some_there None live = absurd (false≢true live)
some_there (Some x) live = (x, refl)

-- where neither the first nor the second has a fault there is none
pub neither : {first second : EditFault → Type 0} → ((fault : EditFault) → first fault → ⊥) → ((fault : EditFault) → second fault → ⊥) → (fault : EditFault) → (first otherwise second) fault → ⊥
neither no_first no_second fault (inl told) = no_first fault told
neither no_first no_second fault (inr told) = no_second fault told.1

-- a row that is there makes the agent known
pub known : (scene : SceneState) (agent : ℕ) (row : Row) → row_of scene.rows agent ≡ Some row → (fault : EditFault) → unknown scene agent fault → ⊥
known scene agent row there fault told = let none = told.1 in cc

pub dropped : (scene : SceneState) (agent : ℕ) (row : Row) (new : List (ℕ × Row)) → row_of scene.rows agent ≡ Some row → IsByAgent scene.rows → IsByAgent new → ChangesRow scene.rows new agent None → Applied scene (Drop agent) (Ok (Dropped agent row)) (record scene { rows = new })
dropped scene agent row new there up_old up_new changes = (
  known scene agent row there,
  rw there refl,
  ap (λ (rows : List (ℕ × Row)). record scene { rows = rows }) (without_row_is scene.rows new agent up_old up_new changes),
)

pub added : (scene : SceneState) (agent : ℕ) (start goal : Point) (new : List (ℕ × Row)) → row_of scene.rows agent ≡ None → length scene.rows < MOST_AGENTS → AreIn scene.grid.size (start ∷ goal ∷ []) → IsByAgent scene.rows → IsByAgent new → ChangesRow scene.rows new agent (Some (record { goal = goal; plan = start ∷ [] })) → Applied scene (Add agent start goal) (Ok (Added agent)) (record scene { rows = new })
added scene agent start goal new free few inside up_old up_new changes = (
  neither (λ fault told. let live = told.1 in let none : is_some (row_of scene.rows agent) ≡ false = rw free refl in false≢true (sym none ∙ live)) (neither (λ fault told. omega (arith, told.1)) (λ fault told. told.1 inside)),
  refl,
  ap (λ (rows : List (ℕ × Row)). record scene { rows = rows }) (with_row_is scene.rows new agent (record { goal = goal; plan = start ∷ [] }) up_old up_new changes),
)

-- a live agent's changed row, as the table tells it
pub changed : (scene : SceneState) (agent : ℕ) (change : Row → Row) (new : List (ℕ × Row)) → IsSome (row_of scene.rows agent) → IsByAgent scene.rows → IsByAgent new → IfSome (row_of scene.rows agent) (λ row. ChangesRow scene.rows new agent (Some (change row))) → record scene { rows = new } ≡ record scene { rows = with_changed scene.rows agent change }
changed scene agent change new live up_old up_new changes =
    let (row, there) = some_there (row_of scene.rows agent) live in
    let changed_row = MatchOption-at_some ⊤ (λ r. ChangesRow scene.rows new agent (Some (change r))) row there changes in
    ap (λ (rows : List (ℕ × Row)). record scene { rows = rows }) (with_changed_is scene.rows new agent row change there up_old up_new changed_row)

pub aimed : (scene : SceneState) (agent : ℕ) (goal old_goal : Point) (new : List (ℕ × Row)) → IsSome (row_of scene.rows agent) → AreIn scene.grid.size (goal ∷ []) → IsByAgent scene.rows → IsByAgent new → IfSome (row_of scene.rows agent) (λ row. ChangesRow scene.rows new agent (Some (record row { goal = goal }))) → IfSome (row_of scene.rows agent) (λ row. old_goal ≡ row.goal) → Applied scene (Goal agent goal) (Ok (Aimed agent old_goal)) (record scene { rows = new })
aimed scene agent goal old_goal new live inside up_old up_new changes before =
    let (row, there) = some_there (row_of scene.rows agent) live in
    let told = MatchOption-at_some ⊤ (λ (r : Row). old_goal ≡ r.goal) row there before in (
      neither (known scene agent row there) (λ fault told. told.1 inside),
      rw there (ap (λ g. Aimed agent g) told),
      changed scene agent (λ r. record r { goal = goal }) new live up_old up_new changes,
    )

-- a plan of a live agent that is the path of cells
pub followed : (scene new : SceneState) (agent : ℕ) (plan cells : List Point) (change : Change) → IsWalkable cells → IsPathOf cells plan → IsMove scene new agent change → new ≡ record scene { rows = with_changed scene.rows agent (λ row. record row { plan = plan }) } → FollowsPath scene agent cells change new
followed scene new agent plan cells change walks path moves edited = record {
  walkable = walks;
  edited = subst (λ (p : List Point). new ≡ record scene { rows = with_changed scene.rows agent (λ row. record row { plan = p }) }) (path_of-is cells plan walks path) edited;
  moves = moves;
}
