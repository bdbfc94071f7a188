use Rattle.std.proofs.lemmas.Bool.Decides.{nat_tests}
use Rattle.std.proofs.lemmas.Grind.{common_steps}
use Rattle.std.proofs.Common.{arith}
use Rattle.bench_reader.proofs.ScenLemmas.{tasks-push}
use Rattle.bench_reader.proofs.scens.take_line.Goals as goal

pub returns-in-Ok-push-clause-ok : goal.returns-in-Ok-push-clause-ok
returns-in-Ok-push-clause-ok c = grind (arith, nat_tests, common_steps, tasks-push)
