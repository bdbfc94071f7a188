-- A version that is too great at one of its digits.
use Rattle.std.proofs.lemmas.Bool.Decides.{nat_tests}
use Rattle.std.proofs.lemmas.Grind.{common_steps}
use Rattle.std.proofs.Common.{◌≡◌, ℕ, ◌+◌, ◌*◌, ◌<◌, ◌≤◌, Bool, true, false, ◌&&◌, List, length, get_or, drop, refl, arith, None, le-ltb, ◌^◌}
use Rattle.std.specs.Char.{digit_value}
use Rattle.std.proofs.Math.Seq.{drop-cons}
use Rattle.std.specs.Str.Parse.{digits_value, digits_value_after}
use Rattle.bench_reader.proofs.WordLemmas.{digits_value_after-ge}
use Rattle.session_lines.specs.Values.{version_named}

not_last : (a b : Bool) → (a && b && false) ≡ false
not_last a b = elim a as (λ a. (a && b && false) ≡ false) [ true ↦ elim b as (λ b. (true && b && false) ≡ false) [ true ↦ refl | false ↦ refl ] | false ↦ refl ]

version_over : (word : List ℕ) → 2 ^ 64 ≤ digits_value 10 word → version_named word ≡ None
version_over word over = grind (arith, nat_tests, common_steps, le-ltb, not_last)

pub version_over_at : (word : List ℕ) (i number : ℕ) → i < length word → digits_value_after 10 number (drop i word) ≡ digits_value 10 word → 2 ^ 64 ≤ number * 10 + digit_value (get_or word i 0) → version_named word ≡ None
version_over_at word i number within value over = grind (arith, nat_tests, common_steps, drop-cons, digits_value_after-ge, version_over)
