-- How places of agents are made.
use Rattle.std.proofs.Common.{◌≡◌, ℕ, suc, ◌+◌, ◌-◌, ◌<◌, ◌≤◌, List, [], ◌∷◌, ◌++◌, length, length-append, append_assoc, Option, None, ap, sym, ◌∙◌, arith}
use Rattle.std.specs.Prelude.{replicate}
use Rattle.std.proofs.lemmas.List.{append-nil}
use Rattle.grid_cells.specs.Cell.{Point}
use Rattle.path_files.specs.Told.{with_places}

-- one more place, where there are too few
pub places-more : (told : List (Option (List Point))) (count : ℕ) → length told < count → with_places (told ++ None ∷ []) count ≡ with_places told count
places-more told count low =
    let left : ℕ = count - (length told + 1) in
    let more : count - length told ≡ suc left = omega arith in
    let same : count - length (told ++ None ∷ []) ≡ left = omega (arith, length-append told (None ∷ [])) in
    ap (λ n. (told ++ None ∷ []) ++ replicate n None) same
    ∙ append_assoc told (None ∷ []) (replicate left None)
    ∙ sym (ap (λ n. told ++ replicate n None) more)

-- enough places
pub places-enough : (told : List (Option (List Point))) (count : ℕ) → count ≤ length told → with_places told count ≡ told
places-enough told count enough =
    let none : count - length told ≡ 0 = omega arith in
    ap (λ n. told ++ replicate n None) none ∙ append-nil told
