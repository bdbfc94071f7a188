use Rattle.std.proofs.Common.{arith}
use Rattle.std.proofs.lemmas.Grind.{common_steps}
use Rattle.path_files.proofs.ColumnLemmas.{front_more}
use Rattle.path_files.proofs.columns.column_in.Goals as goal

pub loop-at-preserved : goal.loop-at-preserved
loop-at-preserved c =
    let more = front_more c.args.line.now c.loop-at.front c.loop-at.at c.loop-at.invariant.reached c.loop-at-test.true in
    grind (arith, common_steps)
