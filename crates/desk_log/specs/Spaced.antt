-- Words behind a name.
use Rattle.std.specs.Prelude.{ℕ, List, [], ◌∷◌, ◌++◌}

-- each word behind a space, and what stands behind the last
abbrev pub spaced : List (List ℕ) → List ℕ → List ℕ
spaced [] rest = rest
spaced (word ∷ words) rest = 32 ∷ (word ++ spaced words rest)
