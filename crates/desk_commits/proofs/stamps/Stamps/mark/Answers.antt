use Rattle.std.proofs.Common.{◌≡◌, refl, sym, ap, subst}
use Rattle.std.proofs.Math.ListN.{set}
use Rattle.grid_cells.specs.Size.{Holds}
use Rattle.scene_edits.specs.declared.changes.Thing.TheVariants as things
use Rattle.desk_commits.specs.Entries.{thing_of}
use Rattle.desk_commits.specs.Stamps.{IsOn}
use Rattle.desk_commits.proofs.Stamping.{marked_cell}
use Rattle.desk_commits.proofs.stamps.Stamps.mark.Goals as goal

pub returns-in-Cell : goal.returns-in-Cell
returns-in-Cell c =
    let is : thing_of c.args.edit.now ≡ things.Cell c.in-Cell.cell = sym (c.in-Cell.ensures) in
    let held : Holds c.args.self.now.size c.in-Cell.cell = subst (IsOn c.args.self.now.size) is c.requires.on_map in
    marked_cell c.args.self.now _ c.args.edit.now c.in-Cell.cell c.args.number c.requires.places held is refl refl (ap (λ k. set c.args.self.now.cells.items k c.args.number) c.index-at.ensures.is) refl
