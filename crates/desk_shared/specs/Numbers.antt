-- The least number that a pass may give away (this project's choice).
use Rattle.std.specs.Prelude.{◌≡◌, ℕ, suc, ◌<◌, Bool, true, false, List, [], ◌∷◌, slice_index_or}

-- the least number in the list
abbrev pub first_true : List Bool → ℕ
first_true [] = 0
first_true (true ∷ later) = 0
first_true (false ∷ later) = suc (first_true later)

-- the number is in the list of 256, and none below it is
abbrev pub IsLeastTrue : List Bool → ℕ → Type 0
IsLeastTrue unused i =
    (i < 256) × (i ≡ first_true unused) × (slice_index_or unused i false ≡ true) × ((u : ℕ) → u < i → slice_index_or unused u false ≡ false)
