use Rattle.std.proofs.Common.{◌≡◌, List, All, sym, ap, subst, ◌∙◌, arith}
use Rattle.std.specs.List.{Contains}
use Rattle.std.proofs.lemmas.List.{take_all}
use Rattle.grid_cells.specs.Cell.{Point}
use Rattle.scene_edits.specs.InOrder.{edited_all}
use Rattle.scene_edits.specs.declared.changes.Change.TheVariants.{Flipped}
use Rattle.scene_edits.specs.Flips.{HoldFlips}
use Rattle.scene_edits.proofs.FlippedCells.{flips_of, flips_hold, flips_named}
use Rattle.scene_edits.proofs.flipped_cells.flipped.Goals as goal

pub returns-clause-flips : goal.returns-clause-flips
returns-clause-flips c =
    let whole : c.loop-change.cells.items ≡ flips_of c.args.changes.now = c.loop-change.invariant ∙ ap flips_of (take_all c.loop-change.change-index c.args.changes.now (omega arith)) in
    λ before edits is_scene allowed are. subst (HoldFlips before.grid (edited_all before edits).grid) (sym whole) (flips_hold before edits c.args.changes.now is_scene allowed are)

pub returns-clause-named : goal.returns-clause-named
returns-clause-named c =
    let whole : c.loop-change.cells.items ≡ flips_of c.args.changes.now = c.loop-change.invariant ∙ ap flips_of (take_all c.loop-change.change-index c.args.changes.now (omega arith)) in
    subst (λ (cells : List Point). All (λ cell. Contains c.args.changes.now (Flipped cell)) cells) (sym whole) (flips_named c.args.changes.now)
