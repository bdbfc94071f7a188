use Rattle.std.proofs.Common.{take, ◌∙◌}
use Rattle.std.proofs.lemmas.List.{take_more}
use Rattle.goal_fields.proofs.CoverLemmas.{Covers-more}
use Rattle.test_parts.proofs.tests.fields.build.set_all.Goals as goal

pub loop-cell-preserved : goal.loop-cell-preserved
loop-cell-preserved c = record {
  size = c.set_one.ensures.size ∙ c.loop-cell.invariant.size;
  covers = rw (take_more c.args.cells.now c.loop-cell.cell-index c.cell-item.result c.loop-cell-test.true, ← c.cell-item.is)
      (Covers-more c.args.grid.now c.loop-cell.grid c.set_one.new.grid (take c.loop-cell.cell-index c.args.cells.now) c.cell-item.result c.loop-cell.invariant.size c.loop-cell.invariant.covers c.set_one.ensures.others);
}
