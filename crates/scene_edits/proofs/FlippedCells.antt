-- The cells that changes flipped are those whose flags differ before and after them.
use Rattle.std.proofs.Common.{◌≡◌, ◌≢◌, Some, ℕ, zero, suc, Bool, true, false, List, [], ◌∷◌, All, refl, sym, ap, subst, ◌∙◌, arith}
use Rattle.std.proofs.Math.ListN.{set}
use Rattle.std.specs.List.{Contains, flat_map, slice_get}
use Rattle.std.proofs.lemmas.Nat.{same_from_place}
use Rattle.std.proofs.lemmas.List.Elements.{All-nil, All-cons, All-weaker}
use Rattle.grid_cells.specs.Cell.{Point}
use Rattle.grid_cells.specs.Size.{Extent, Holds}
use Rattle.grid_cells.specs.Grid.{Chart, flag_index, with_cell}
use Rattle.plan_table.specs.Route.{is_cell}
use Rattle.scene_edits.specs.Scene.{SceneState, IsScene, AreIn}
use Rattle.scene_edits.specs.InOrder.{edited_all, AreAllowed, AreChanges}
use Rattle.scene_edits.specs.Undone.{undone, undone_all, AreUndoable}
use Rattle.scene_edits.specs.declared.edits.Edit.{Edit}
use Rattle.scene_edits.specs.declared.changes.Change.{Change}
use Rattle.scene_edits.specs.declared.changes.Change.TheVariants.{Added, Dropped, Aimed, Moved, Flipped, Same}
use Rattle.scene_edits.proofs.PathsOf.{is_cell-same, is_cell-other}
use Rattle.scene_edits.proofs.Returning.{changes_go_back_holds, edits_keep_size_holds}
use Rattle.scene_edits.specs.Flips.{flag_at, HoldFlips}

-- the cell that a change flipped, if it flipped one
abbrev pub flip_of : Change → List Point
flip_of (Added agent) = []
flip_of (Dropped agent row) = []
flip_of (Aimed agent goal) = []
flip_of (Moved agent plan since) = []
flip_of (Flipped cell) = cell ∷ []
flip_of (Same cell) = []

abbrev pub flips_of : List Change → List Point
flips_of changes = flat_map flip_of changes

Contains-first : {X : Type 0} (x : X) (xs : List X) → Contains (x ∷ xs) x
Contains-first x xs = (0, omega arith, refl)

Contains-later : {X : Type 0} (first : X) (xs : List X) (x : X) → Contains xs x → Contains (first ∷ xs) x
Contains-later first xs x (k, within, is) = (suc k, omega arith, is)

-- an element after a write at another place
set_elsewhere : (xs : List Bool) (i j : ℕ) (v : Bool) → j ≢ i → slice_get (set xs i v) j ≡ slice_get xs j
set_elsewhere [] i j v apart = refl
set_elsewhere (x ∷ xs) zero zero v apart = absurd (apart refl)
set_elsewhere (x ∷ xs) zero (suc j) v apart = refl
set_elsewhere (x ∷ xs) (suc i) zero v apart = refl
set_elsewhere (x ∷ xs) (suc i) (suc j) v apart = set_elsewhere xs i j v (λ e. apart (ap suc e))

-- two cells of a map have one flag only if they are one
same_cell : (size : Extent) (a b : Point) → Holds size a → Holds size b → flag_index size a ≡ flag_index size b → a ≡ b
same_cell size a b p q e =
    let s : (a.y ≡ b.y) × (a.x ≡ b.x) = same_from_place a.y a.x b.y b.x size.width p.0 q.0 e in
    λ i. record { x = s.1 i; y = s.0 i }

other_flag : (grid : Chart) (cell other : Point) (free : Bool) → Holds grid.size cell → Holds grid.size other → other ≢ cell → flag_at (with_cell grid cell free) other ≡ flag_at grid other
other_flag grid cell other free held_cell held_other apart =
    set_elsewhere grid.flags (flag_index grid.size cell) (flag_index grid.size other) free (λ e. apart (same_cell grid.size other cell held_other held_cell e))

undone_keeps_size : (scene : SceneState) (change : Change) → (undone scene change).grid.size ≡ scene.grid.size
undone_keeps_size scene (Added agent) = refl
undone_keeps_size scene (Dropped agent row) = refl
undone_keeps_size scene (Aimed agent goal) = refl
undone_keeps_size scene (Moved agent plan since) = refl
undone_keeps_size scene (Flipped cell) = refl
undone_keeps_size scene (Same cell) = refl

undone_all_keeps_size : (scene : SceneState) (changes : List Change) → (undone_all scene changes).grid.size ≡ scene.grid.size
undone_all_keeps_size scene [] = refl
undone_all_keeps_size scene (change ∷ later) = undone_keeps_size (undone_all scene later) change ∙ undone_all_keeps_size scene later

pub flips_differ : (scene : SceneState) (changes : List Change) → AreUndoable scene changes → (cell : Point) → Holds scene.grid.size cell → flag_at (undone_all scene changes).grid cell ≢ flag_at scene.grid cell → Contains (flips_of changes) cell
flips_differ scene [] ready cell held differ = absurd (differ refl)
flips_differ scene (Added agent ∷ later) ready cell held differ = flips_differ scene later ready.0 cell held differ
flips_differ scene (Dropped agent row ∷ later) ready cell held differ = flips_differ scene later ready.0 cell held differ
flips_differ scene (Aimed agent goal ∷ later) ready cell held differ = flips_differ scene later ready.0 cell held differ
flips_differ scene (Moved agent plan since ∷ later) ready cell held differ = flips_differ scene later ready.0 cell held differ
flips_differ scene (Same other ∷ later) ready cell held differ = flips_differ scene later ready.0 cell held differ
flips_differ scene (Flipped other ∷ later) ready cell held differ =
    elim (is_cell (Some cell) other) as (λ t. is_cell (Some cell) other ≡ t → Contains (other ∷ flips_of later) cell) [
      | true ↦ λ pass. subst (λ (first : Point). Contains (first ∷ flips_of later) cell) (is_cell-same cell other pass) (Contains-first cell (flips_of later))
      | false ↦ λ fail.
          let held_now : Holds (undone_all scene later).grid.size cell = subst (λ size. Holds size cell) (sym (undone_all_keeps_size scene later)) held in
          let kept = other_flag (undone_all scene later).grid other cell _ ready.1 held_now (is_cell-other cell other fail) in
          Contains-later other (flips_of later) cell (flips_differ scene later ready.0 cell held (λ same. differ (kept ∙ same)))
    ] refl

pub flips_on_map : (scene : SceneState) (changes : List Change) → AreUndoable scene changes → AreIn scene.grid.size (flips_of changes)
flips_on_map scene [] ready = All-nil (Holds scene.grid.size)
flips_on_map scene (Added agent ∷ later) ready = flips_on_map scene later ready.0
flips_on_map scene (Dropped agent row ∷ later) ready = flips_on_map scene later ready.0
flips_on_map scene (Aimed agent goal ∷ later) ready = flips_on_map scene later ready.0
flips_on_map scene (Moved agent plan since ∷ later) ready = flips_on_map scene later ready.0
flips_on_map scene (Same other ∷ later) ready = flips_on_map scene later ready.0
flips_on_map scene (Flipped other ∷ later) ready = All-cons (Holds scene.grid.size) other (flips_of later) (subst (λ size. Holds size other) (undone_all_keeps_size scene later) ready.1) (flips_on_map scene later ready.0)

pub flips_hold : (before : SceneState) (edits : List Edit) (changes : List Change) → IsScene before → AreAllowed before edits → AreChanges before edits changes → HoldFlips before.grid (edited_all before edits).grid (flips_of changes)
flips_hold before edits changes is_scene allowed are =
    let after : SceneState = edited_all before edits in
    let (ready, back) = changes_go_back_holds before edits changes is_scene allowed are in
    let (size, mode) = edits_keep_size_holds before edits in
    record {
      differ = λ cell held differs. flips_differ after changes ready cell (subst (λ s. Holds s cell) (sym size) held) (λ same. differs (sym (ap (λ (s : SceneState). flag_at s.grid cell) back) ∙ same));
      on_map = subst (λ s. AreIn s (flips_of changes)) size (flips_on_map after changes ready);
    }

named_later : (first : Change) (changes : List Change) → All (λ cell. Contains changes (Flipped cell)) (flips_of changes) → All (λ cell. Contains (first ∷ changes) (Flipped cell)) (flips_of changes)
named_later first changes named = All-weaker (λ cell. Contains changes (Flipped cell)) (λ cell. Contains (first ∷ changes) (Flipped cell)) (λ cell there. Contains-later first changes (Flipped cell) there) (flips_of changes) named

pub flips_named : (changes : List Change) → All (λ cell. Contains changes (Flipped cell)) (flips_of changes)
flips_named [] = All-nil (λ cell. Contains [] (Flipped cell))
flips_named (Added agent ∷ later) = named_later (Added agent) later (flips_named later)
flips_named (Dropped agent row ∷ later) = named_later (Dropped agent row) later (flips_named later)
flips_named (Aimed agent goal ∷ later) = named_later (Aimed agent goal) later (flips_named later)
flips_named (Moved agent plan since ∷ later) = named_later (Moved agent plan since) later (flips_named later)
flips_named (Same cell ∷ later) = named_later (Same cell) later (flips_named later)
flips_named (Flipped cell ∷ later) = All-cons (λ c. Contains (Flipped cell ∷ later) (Flipped c)) cell (flips_of later) (Contains-first (Flipped cell) later) (named_later (Flipped cell) later (flips_named later))
