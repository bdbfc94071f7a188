-- From a scene to the one that edits make of it.
use Rattle.std.proofs.Common.{◌≡◌, ℕ, List, sym, ap, subst, ◌∙◌, arith}
use Rattle.std.proofs.lemmas.Bool.Decides.{nat_tests}
use Rattle.std.proofs.lemmas.Grind.{common_steps}
use Rattle.std.proofs.lemmas.Option.{gets}
use Rattle.grid_cells.specs.Cell.{Point}
use Rattle.goal_fields.specs.Target.{Covers}
use Rattle.plan_table.specs.Plans.{row_of}
use Rattle.plan_table.specs.declared.plans.Row.{Row}
use Rattle.plan_table.specs.declared.tracks.Mode.{Mode}
use Rattle.scene_edits.specs.Scene.{SceneState}
use Rattle.scene_edits.specs.InOrder.{edited_all}
use Rattle.scene_edits.specs.declared.changes.Change.{Change}
use Rattle.scene_edits.proofs.Returning.{edits_keep_size_holds}
use Rattle.scene_edits.specs.Formers.{AreFormers}
use Rattle.scene_edits.specs.Flips.{HoldFlips}
use Rattle.scene_edits.specs.declared.named_agents.Former.{Former}
use Rattle.live_report.specs.Books.{BooksState, Keep, AreOf}
use Rattle.scene_edits.specs.ChangedBy.{ChangedBy}
use Rattle.live_report.specs.Following.{AreLeft}

module _ (before scene : SceneState) (changes : List Change) (changed : ChangedBy before changes scene) where
  pub same_mode : before.mode ≡ scene.mode
  same_mode = sym ((edits_keep_size_holds before changed.edits).1) ∙ ap (λ (s : SceneState). s.mode) (sym changed.made)

  pub same_size : before.grid.size ≡ scene.grid.size
  same_size = sym ((edits_keep_size_holds before changed.edits).0) ∙ ap (λ (s : SceneState). s.grid.size) (sym changed.made)

  -- the books in the present mode
  pub in_mode : (books : BooksState) → AreOf before books → Keep scene.mode before.grid (row_of before.rows) books
  in_mode books are = subst (λ (m : Mode). Keep m before.grid (row_of before.rows) books) same_mode are

  pub flips_cover : (cells : List Point) → HoldFlips before.grid (edited_all before changed.edits).grid cells → Covers cells before.grid scene.grid
  flips_cover cells flips = subst (λ (s : SceneState). Covers cells before.grid s.grid) (sym changed.made) flips.differ

  pub formers_left : (rows : List (ℕ × Row)) (formers : List Former) → rows ≡ scene.rows → AreFormers before.rows rows formers → AreLeft (row_of before.rows) (row_of scene.rows) formers
  formers_left rows formers same are = grind (arith, nat_tests, common_steps, gets)
