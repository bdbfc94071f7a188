-- The place of a slot, or none, held as one number (this project's choice).
use Rattle.std.specs.Prelude.{◌≡◌, ℕ, zero, suc, Option, Some, None, refl}

-- none is 0, and each place the number after it
unfoldable pub place_of : ℕ → Option ℕ
place_of zero = None
place_of (suc place) = Some place

unfoldable pub code_of : Option ℕ → ℕ
code_of None = 0
code_of (Some place) = suc place

-- a number is told by the place that it stands for
pub code_of_place : (code : ℕ) → code_of (place_of code) ≡ code
unfolding place_of code_of
code_of_place zero = refl
code_of_place (suc place) = refl
