-- The rows of a table before changes, agent by agent.
use Rattle.std.proofs.Common.{◌≡◌, ℕ, ◌+◌, ◌<◌, eqb, if◌then◌else◌, List, [], ◌∷◌, drop, get_or, length, Option, Some, None, inl, inr, refl, sym, ap, subst, ◌∙◌, arith}
use Rattle.std.specs.Prelude.{IfSome, unwrap_or}
use Rattle.std.specs.Option.{option_map}
use Rattle.std.proofs.lemmas.Bool.Decides.{eqb_tells, nat_tests}
use Rattle.std.proofs.lemmas.Grind.{common_steps}
use Rattle.std.proofs.lemmas.Option.{gets}
use Rattle.grid_cells.specs.Cell.{Point}
use Rattle.plan_table.specs.Path.{SamePlaces}
use Rattle.plan_table.specs.Plans.{row_of}
use Rattle.plan_table.specs.Route.{route_in}
use Rattle.plan_table.specs.declared.plans.Row.{Row}
use Rattle.scene_edits.specs.Scene.{SceneState, IsScene}
use Rattle.scene_edits.specs.Edited.{edited, with_changed}
use Rattle.scene_edits.specs.InOrder.{edited_all, AreAllowed, AreChanges}
use Rattle.scene_edits.specs.Changes.{IsMove, IsChange}
use Rattle.scene_edits.specs.Undone.{undone}
use Rattle.scene_edits.specs.declared.edits.Edit.{Edit}
use Rattle.scene_edits.specs.declared.edits.Edit.TheVariants.{Add, Drop, Goal, Path, Tail, Open, Close}
use Rattle.scene_edits.specs.declared.changes.Change.{Change}
use Rattle.scene_edits.specs.declared.changes.Change.TheVariants.{Added, Dropped, Aimed, Moved, Flipped, Same}
use Rattle.scene_edits.proofs.RowEdits.{row_of-with_row, row_of-without_row}
use Rattle.scene_edits.proofs.KeptScenes.{edits_keep_scenes_holds}
use Rattle.scene_edits.proofs.TakingBack.{some_and, goes_back}
use Rattle.scene_edits.specs.Kept.{Past, AreAlike, before_change, before_changes, moved_back, present}
use Rattle.scene_edits.proofs.SameRoutes.{same_until}

-- a changed row, where there is one
row_of-with_changed : (rows : List (ℕ × Row)) (agent : ℕ) (change : Row → Row) (q : ℕ) → row_of (with_changed rows agent change) q ≡ (if eqb agent q then option_map change (row_of rows q) else row_of rows q)
row_of-with_changed rows agent change q =
    elim (row_of rows agent) as (λ o. row_of rows agent ≡ o → row_of (with_changed rows agent change) q ≡ (if eqb agent q then option_map change (row_of rows q) else row_of rows q)) [
      | None ↦ λ none. rw none (none_there none)
      | Some row ↦ λ some. rw some (row_of-with_row rows agent (change row) q ∙ some_there row some)
    ] refl
  where
    none_there : row_of rows agent ≡ None → row_of rows q ≡ (if eqb agent q then option_map change (row_of rows q) else row_of rows q)
    none_there none =
        elim (eqb_tells agent q) [
          | inl is ↦ let here : row_of rows q ≡ None = ap (row_of rows) (sym is.1) ∙ none in rw (is.0, here) refl
          | inr apart ↦ rw apart.0 refl
        ]

    some_there : (row : Row) → row_of rows agent ≡ Some row → (if eqb agent q then Some (change row) else row_of rows q) ≡ (if eqb agent q then option_map change (row_of rows q) else row_of rows q)
    some_there row some =
        elim (eqb_tells agent q) [
          | inl is ↦ let here : row_of rows q ≡ Some row = ap (row_of rows) (sym is.1) ∙ some in rw (is.0, here) refl
          | inr apart ↦ rw apart.0 refl
        ]

-- what is known of the row that an agent had is right, where it has that row later
pub record IsPast (before later : Option Row) (past : Option Past) : Type 0 where
  pub row : option_map (λ (p : Past). p.row) past ≡ before
  pub alike : AreAlike past later

-- of a present row all is known
pub is_present : (row : Option Row) → IsPast row row (present row)
is_present None = record { row = refl; alike = tt }
is_present (Some row) = record { row = refl; alike = λ time early. refl }

-- a move tells below which time the path before and the path after are in the same cells
abbrev TellsSince : List (ℕ × Row) → Change → Type 0
TellsSince rows (Moved a plan since) = IfSome (row_of rows a) (λ row. (n : ℕ) → SamePlaces plan row.plan (unwrap_or since n))
TellsSince rows other = Unit {0}

at_no_time : (row : Row) (later : Option Row) → IfSome later (λ r. SamePlaces row.plan r.plan 0)
at_no_time row None = tt
at_no_time row (Some other) = λ time early. absurd (omega (arith, early))

aimed_back : (goal : Point) (row later : Option Row) (past : Option Past) → IsPast row later past → IsPast (option_map (λ (r : Row). record r { goal = goal }) row) later (option_map (λ (p : Past). record { row = record p.row { goal = goal }; alike = p.alike }) past)
aimed_back goal row later None is = record { row = ap (option_map (λ (r : Row). record r { goal = goal })) is.row; alike = tt }
aimed_back goal row later (Some p) is = record { row = ap (option_map (λ (r : Row). record r { goal = goal })) is.row; alike = is.alike }

path_back : (plan : List Point) (since : Option ℕ) (row later : Option Row) (past : Option Past) → IfSome row (λ r. (n : ℕ) → SamePlaces plan r.plan (unwrap_or since n)) → IsPast row later past → IsPast (option_map (λ (r : Row). record r { plan = plan }) row) later (option_map (moved_back plan since) past)
path_back plan since row later None tells is = record { row = ap (option_map (λ (r : Row). record r { plan = plan })) is.row; alike = tt }
path_back plan since row None (Some p) tells is = record { row = ap (option_map (λ (r : Row). record r { plan = plan })) is.row; alike = tt }
path_back plan since row (Some last) (Some p) tells is =
    let told : (n : ℕ) → SamePlaces plan p.row.plan (unwrap_or since n) = rw (← is.row) at tells in
    record { row = ap (option_map (λ (r : Row). record r { plan = plan })) is.row; alike = λ time early. told p.alike time (omega arith) ∙ is.alike time (omega arith) }

-- what is known where a change is taken back
one_back : (scene : SceneState) (change : Change) (agent : ℕ) (later : Option Row) (past : Option Past) → TellsSince scene.rows change → IsPast (row_of scene.rows agent) later past → IsPast (row_of (undone scene change).rows agent) later (before_change change agent past)
one_back scene (Added a) agent later past tells is =
    elim (eqb_tells a agent) [
      | inl here ↦ rw (row_of-without_row scene.rows a agent, here.0) (record { row = refl; alike = tt })
      | inr apart ↦ rw (row_of-without_row scene.rows a agent, apart.0) is
    ]
one_back scene (Dropped a row) agent later past tells is =
    elim (eqb_tells a agent) [
      | inl here ↦ rw (row_of-with_row scene.rows a row agent, here.0) (record { row = refl; alike = at_no_time row later })
      | inr apart ↦ rw (row_of-with_row scene.rows a row agent, apart.0) is
    ]
one_back scene (Aimed a goal) agent later past tells is =
    elim (eqb_tells a agent) [
      | inl here ↦ rw (row_of-with_changed scene.rows a (λ row. record row { goal = goal }) agent, here.0) (aimed_back goal _ later past is)
      | inr apart ↦ rw (row_of-with_changed scene.rows a (λ row. record row { goal = goal }) agent, apart.0) is
    ]
one_back scene (Moved a plan since) agent later past tells is =
    elim (eqb_tells a agent) [
      | inl here ↦ rw (row_of-with_changed scene.rows a (λ row. record row { plan = plan }) agent, here.0) (path_back plan since _ later past (subst (λ q. TellsSince scene.rows (Moved q plan since)) here.1 tells) is)
      | inr apart ↦ rw (row_of-with_changed scene.rows a (λ row. record row { plan = plan }) agent, apart.0) is
    ]
one_back scene (Flipped cell) agent later past tells is = is
one_back scene (Same cell) agent later past tells is = is

-- the change that an edit makes tells so
move_tells : (scene : SceneState) (edit : Edit) (agent : ℕ) (change : Change) → IsScene scene → IsScene (edited scene edit) → IsMove scene (edited scene edit) agent change → TellsSince (edited scene edit).rows change
move_tells scene edit agent change is kept move =
    let told = same_until (route_in scene.mode move.before) (route_in (edited scene edit).mode move.after) (is.on_map agent move.before move.was).path (kept.on_map agent move.after move.is).path move.since move.first in
    rw (move.told, move.is) told

edit_tells : (scene : SceneState) (edit : Edit) (change : Change) → IsScene scene → IsScene (edited scene edit) → IsChange scene edit change → TellsSince (edited scene edit).rows change
edit_tells scene (Add agent start goal) change is kept told = rw told tt
edit_tells scene (Drop agent) change is kept told =
    let it = some_and (row_of scene.rows agent) (λ (row : Row). change ≡ Dropped agent row) told in
    let is : change ≡ Dropped agent it.0 = it.2 in
    rw is tt
edit_tells scene (Goal agent goal) change is kept told =
    let it = some_and (row_of scene.rows agent) (λ (row : Row). change ≡ Aimed agent row.goal) told in
    let is : change ≡ Aimed agent it.0.goal = it.2 in
    rw is tt
edit_tells scene (Path agent cells) change is kept told = move_tells scene (Path agent cells) agent change is kept told
edit_tells scene (Tail agent from cells) change is kept told = move_tells scene (Tail agent from cells) agent change is kept told
edit_tells scene (Open cell) change is kept told = elim told [ inl flips ↦ rw flips.1 tt | inr same ↦ rw same.1 tt ]
edit_tells scene (Close cell) change is kept told = elim told [ inl flips ↦ rw flips.1 tt | inr same ↦ rw same.1 tt ]

-- what is known where all changes are taken back
pub all_back : (scene : SceneState) (edits : List Edit) (changes : List Change) → IsScene scene → AreAllowed scene edits → AreChanges scene edits changes → (agent : ℕ) → IsPast (row_of scene.rows agent) (row_of (edited_all scene edits).rows agent) (before_changes changes agent (present (row_of (edited_all scene edits).rows agent)))
all_back scene [] [] is allowed are agent = is_present (row_of scene.rows agent)
all_back scene [] (change ∷ changes) is allowed are agent = absurd are
all_back scene (edit ∷ later) [] is allowed are agent = absurd are
all_back scene (edit ∷ later) (change ∷ changes) is allowed are agent =
    let kept = edits_keep_scenes_holds scene edit is allowed.0 in
    let rest = all_back (edited scene edit) later changes kept allowed.1 are.1 agent in
    subst (λ (s : SceneState). IsPast (row_of s.rows agent) (row_of (edited_all (edited scene edit) later).rows agent) (before_changes (change ∷ changes) agent (present (row_of (edited_all (edited scene edit) later).rows agent)))) (goes_back scene edit change is allowed.0 are.0).back
    (one_back (edited scene edit) change agent _ _ (edit_tells scene edit change is kept are.0) rest)

-- one change more at the front
pub drop_one : {X : Type 0} (xs : List X) (at left : ℕ) (x : X) → at < length xs → at + 1 ≡ left → x ≡ get_or xs at x → drop at xs ≡ x ∷ drop left xs
drop_one {X = X} xs at left x within next is = grind (arith, nat_tests, common_steps, gets)
