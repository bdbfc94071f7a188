use Rattle.std.proofs.lemmas.Bool.Decides.{nat_tests}
use Rattle.std.proofs.lemmas.Grind.{common_steps}
use Rattle.std.proofs.Common.{arith}
use Rattle.std.proofs.lemmas.List.{take_rest}
use Rattle.bench_reader.proofs.WordLemmas.{first_word}
use Rattle.bench_reader.proofs.words.next_word.Goals as goal

pub returns : goal.returns
returns c = grind (arith, nat_tests, common_steps, take_rest, first_word)
