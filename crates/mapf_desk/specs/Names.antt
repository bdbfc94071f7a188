-- Names of planners, no two of which may be one (this project's choice).
use Rattle.std.specs.Prelude.{ℕ, Bool, List, [], ◌∷◌, ◌++◌, Option, Some, None, bytes_eq, if◌then◌else◌}
use Rattle.std.specs.List.{list_any}
use Rattle.std.specs.Borrow.{Bor}

-- one of the names is that one
abbrev pub is_among : List ℕ → List (Bor (List ℕ)) → Bool
is_among name names = list_any (λ other. bytes_eq other.now name) names

-- the first of the names that is also among those before it
abbrev pub first_repeated : (before names : List (Bor (List ℕ))) → Option (List ℕ)
first_repeated before [] = None
first_repeated before (name ∷ names) = if is_among name.now before then Some name.now else first_repeated (before ++ name ∷ []) names
