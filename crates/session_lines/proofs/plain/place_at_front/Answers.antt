use Rattle.std.proofs.Common.{ap, sym, ◌∙◌, ◌+◌, ◌*◌, arith}
use Rattle.session_lines.proofs.PlainLemmas.{digit_next}
use Rattle.session_lines.proofs.plain.place_at_front.Goals as goal

pub loop-rest-preserved : goal.loop-rest-preserved
loop-rest-preserved c =
    digit_next _ c.loop-rest.rest.now c.loop-rest.number _ c.loop-rest.invariant c.in-len1-up.len_at_least
    (sym c.is_ascii_digit.ensures.value ∙ c.if-not-is_ascii_digit.false) (ap (λ digit. c.loop-rest.number * 10 + digit) c.from.ensures) (omega arith)
