use Rattle.std.proofs.lemmas.Bool.Decides.{nat_tests}
use Rattle.std.proofs.lemmas.Grind.{common_steps}
use Rattle.std.proofs.Common.{arith}
use Rattle.std.proofs.lemmas.Str.{digit_value_digit}
use Rattle.session_lines.proofs.ValueLemmas.{version_over_at}
use Rattle.session_lines.proofs.values.version_named.Goals as goal

pub returns-in_err-checked_mul : goal.returns-in_err-checked_mul
returns-in_err-checked_mul c = grind (arith, nat_tests, common_steps, digit_value_digit, version_over_at)

pub returns-in_err-number : goal.returns-in_err-number
returns-in_err-number c = grind (arith, nat_tests, common_steps, digit_value_digit, version_over_at)
