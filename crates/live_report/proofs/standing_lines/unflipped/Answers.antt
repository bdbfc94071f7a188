use Rattle.std.proofs.Common.{◌≡◌, length, arith}
use Rattle.std.specs.Prelude.{All}
use Rattle.std.proofs.lemmas.Grind.{common_steps}
use Rattle.goal_fields.specs.Target.{IsSound}
use Rattle.live_report.proofs.Staying.{where_stay}
use Rattle.live_report.proofs.standing_lines.unflipped.Goals as goal

pub returns-then-is_empty : goal.returns-then-is_empty
returns-then-is_empty c = λ old rows are size covers were.
    let sound : All IsSound c.args.prices.now.fields = rw c.fields.ensures at c.count-goals.ensures.sound in
    let none : length c.args.cells.now ≡ 0 = grind (arith, common_steps) in
    where_stay old c.args.grid.now rows c.args.prices.now c.args.cells.now are sound c.size-size.ensures.whole size none covers c.args.lines were
