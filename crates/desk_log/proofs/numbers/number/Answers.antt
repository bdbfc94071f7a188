use Rattle.std.proofs.Common.{◌∙◌}
use Rattle.desk_log.proofs.Spelled.{one_digit}
use Rattle.desk_log.proofs.numbers.number.Goals as goal

pub returns : goal.returns
returns c = one_digit c.args.text.now c.in_ok-first.first c.in_ok-first.rest.now c.in_ok-first.ensures.0 c.in_ok-first.ensures.1 ∙ c.in_ok-value.ensures
