use Rattle.std.proofs.lemmas.Bool.Decides.{nat_tests}
use Rattle.std.proofs.lemmas.Grind.{common_steps}
use Rattle.std.proofs.Common.{arith}
use Rattle.bench_reader.proofs.LineLemmas.{row-blank, row-letter, row_split}
use Rattle.bench_reader.proofs.lines.row_of.Goals as goal

pub loop-row-preserved : goal.loop-row-preserved
loop-row-preserved c = grind (arith, nat_tests, common_steps, row_split, row-blank)

pub returns-then-not-is_blank : goal.returns-then-not-is_blank
returns-then-not-is_blank c = grind (arith, nat_tests, common_steps, row_split, row-letter)
