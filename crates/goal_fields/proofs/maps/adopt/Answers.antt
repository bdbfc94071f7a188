use Rattle.std.proofs.Common.{take, ◌≡◌}
use Rattle.std.proofs.lemmas.List.{take_more, take_all}
use Rattle.goal_fields.specs.Adopting.{IsAdopting}
use Rattle.goal_fields.proofs.CoverLemmas.{flags_made}
use Rattle.goal_fields.proofs.maps.adopt.Goals as goal

pub loop-cell-preserved : goal.loop-cell-preserved
loop-cell-preserved c =
    rw (take_more c.args.changed.now c.loop-cell.cell-index c.cell-item.result c.loop-cell-test.true, ← c.cell-item.is)
    (c.copy_cell.ensures.adopting c.args.map.now (take c.loop-cell.cell-index c.args.changed.now) c.loop-cell.invariant)

pub returns-clause-is : goal.returns-clause-is
returns-clause-is c =
    let whole : take c.loop-cell.cell-index c.args.changed.now ≡ c.args.changed.now = take_all c.loop-cell.cell-index c.args.changed.now c.loop-cell-test.false in
    let adopting : IsAdopting c.args.map.now c.loop-cell.map c.args.grid.now c.args.changed.now = rw whole at c.loop-cell.invariant in
    flags_made c.args.map.now c.loop-cell.map c.args.grid.now c.args.changed.now c.requires.wide adopting c.requires.covered c.requires.same_size c.size-size.ensures.whole
