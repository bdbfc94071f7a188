use Rattle.std.proofs.lemmas.Bool.Decides.{nat_tests}
use Rattle.std.proofs.lemmas.Grind.{common_steps}
use Rattle.std.proofs.Common.{arith}
use Rattle.std.proofs.lemmas.Str.{digit_value_digit}
use Rattle.bench_reader.proofs.WordLemmas.{number_of-over_at}
use Rattle.bench_reader.proofs.words.number_of.Goals as goal

pub returns-then-number-from : goal.returns-then-number-from
returns-then-number-from c = grind (arith, nat_tests, common_steps, digit_value_digit, number_of-over_at)
