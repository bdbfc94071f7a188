use Rattle.std.proofs.Common.{arith}
use Rattle.std.proofs.lemmas.Bool.Decides.{nat_tests}
use Rattle.std.proofs.lemmas.Grind.{common_steps}
use Rattle.std.proofs.lemmas.Option.{gets}
use Rattle.desk_report.proofs.reports.AgentLineItem.told_apart.Goals as goal

pub returns : goal.returns
returns c = λ a b e. grind (arith, nat_tests, common_steps, gets)
