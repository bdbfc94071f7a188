use Rattle.std.proofs.lemmas.Bool.Decides.{nat_tests}
use Rattle.std.proofs.lemmas.Grind.{common_steps}
use Rattle.std.proofs.Common.{arith}
use Rattle.bench_reader.proofs.RowLemmas.{rows_more}
use Rattle.bench_reader.proofs.rows.read_rows.Goals as goal

pub loop-row-preserved : goal.loop-row-preserved
loop-row-preserved c = grind (arith, nat_tests, common_steps, rows_more)
