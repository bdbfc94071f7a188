use Rattle.std.proofs.Common.{rules, ◌≡◌, Err, ◌∙◌}
use Rattle.path_files.proofs.CellLemmas.{part_bad, part_good}
use Rattle.path_files.proofs.cells.cells_of.Goals as goal

pub returns-in_err-add_cell : goal.returns-in_err-add_cell
returns-in_err-add_cell c =
    let fault = c.in_err-add_cell.field-0.0 in
    let told : c.from_residual.result ≡ Err fault = search rules in
    let bad = part_bad c.args.notation c.args.line c.loop-part.front.now c.loop-part.cells.items c.loop-part.rest.now c.in-Some.part.now c.in-Some.below.now fault c.in-Some.ensures.parts c.in_err-add_cell.ensures.err in
    rw (told, c.loop-part.invariant) bad

pub loop-part-preserved : goal.loop-part-preserved
loop-part-preserved c =
    let good = part_good c.args.notation c.args.line c.loop-part.front.now c.loop-part.cells.items c.add_cell.new.cells.items c.loop-part.rest.now c.in-Some.part.now c.in-Some.below.now c.in-Some.ensures.parts c.in_ok-add_cell.ensures.ok in
    rw c.join_of-front.ensures (c.loop-part.invariant ∙ good)
