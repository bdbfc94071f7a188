use Rattle.std.proofs.Common.{arith}
use Rattle.std.proofs.lemmas.Bool.Decides.{nat_tests}
use Rattle.std.proofs.lemmas.Grind.{common_steps}
use Rattle.std.proofs.lemmas.Option.{gets}
use Rattle.live_report.proofs.Telling.{line_told}
use Rattle.live_report.proofs.told_lines.told.Goals as goal

pub returns-then-unblocked : goal.returns-then-unblocked
returns-then-unblocked c = λ grid entry is on means. line_told grid entry c.args.line (on, means.0 c.if-unblocked.true) is

pub returns-else-unblocked : goal.returns-else-unblocked
returns-else-unblocked c = grind (arith, nat_tests, common_steps, gets)
