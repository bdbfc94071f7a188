use Rattle.std.proofs.Common.{length}
use Rattle.session_lines.proofs.PlainLemmas.{DigitsSoFar}
use Rattle.session_lines.proofs.plain.place_at_front.Given as goal

abbrev pub invariant-loop-rest : goal.invariant-loop-rest
invariant-loop-rest l = DigitsSoFar l.line l.rest l.number

abbrev pub decreases-loop-rest : goal.decreases-loop-rest
decreases-loop-rest l = length l.rest
