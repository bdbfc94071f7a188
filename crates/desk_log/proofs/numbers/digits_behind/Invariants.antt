use Rattle.std.proofs.Common.{◌≡◌, ◌<◌, ◌++◌, ◌^◌, decimal, length}
use Rattle.desk_log.proofs.numbers.digits_behind.Given as goal

-- the number so far, and what stands behind its digits
abbrev pub invariant-digits : goal.invariant-digits
invariant-digits l = (0 < l.value) × (l.value < 10 ^ 18) × (decimal l.first ++ l.text ≡ decimal l.value ++ l.rest)

abbrev pub decreases-digits : goal.decreases-digits
decreases-digits l = length l.rest
