use Rattle.std.proofs.Common.{arith, get_or}
use Rattle.goal_fields.specs.Target.{IsSound}
use Rattle.goal_fields.proofs.CoverLemmas.{same_map}
use Rattle.live_report.proofs.goals.stay.Goals as goal

pub returns : goal.returns
returns c k d within =
    let sound : IsSound (get_or c.args.fields.now.fields k d) = c.count-count.ensures.sound k d within in
    same_map (get_or c.args.fields.now.fields k d).grid c.args.grid.now c.args.cells.now c.requires.none (c.requires.covered k d within) (c.requires.same_size k d within) (omega (arith, sound.held.0)) sound.whole c.size-size.ensures.whole
