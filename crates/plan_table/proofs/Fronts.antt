-- Two paths that begin alike.
use Rattle.std.proofs.lemmas.Bool.Decides.{nat_tests}
use Rattle.std.proofs.Common.{◌≡◌, ℕ, zero, suc, ◌<◌, ◌≤◌, min, List, [], ◌∷◌, length, sym, refl, ◌∙◌, arith}
use Rattle.std.specs.List.{slice_get}
use Rattle.std.specs.Prelude.{take}
use Rattle.std.proofs.lemmas.Option.{same_Some, gets}
use Rattle.std.proofs.lemmas.Grind.{common_steps}
use Rattle.grid_cells.specs.Cell.{Point}
use Rattle.plan_table.specs.Path.{place, last_index, SamePlaces, IsSameFront}

-- below its length a path has its own cell as its place
place_within : (path : List Point) (time : ℕ) → time < length path → place path time ≡ slice_get path time
place_within path time within = let now : min time (last_index path) ≡ time = omega arith in rw now refl

-- paths in the same cells at times below the ends of both begin alike
pub alike_front : (one other : List Point) (many : ℕ) → many ≤ length one → many ≤ length other → SamePlaces one other many → take many one ≡ take many other
alike_front one other many in_one in_other same =
    alike many one other in_one in_other (λ k within. sym (place_within one k (omega (arith, within))) ∙ same k within ∙ place_within other k (omega (arith, within)))
  where
    alike : (many : ℕ) (one other : List Point) → many ≤ length one → many ≤ length other → ((k : ℕ) → k < many → slice_get one k ≡ slice_get other k) → take many one ≡ take many other
    alike zero one other in_one in_other same = refl
    alike (suc many) [] other in_one in_other same = absurd (omega (arith, in_one))
    alike (suc many) (x ∷ one) [] in_one in_other same = absurd (omega (arith, in_other))
    alike (suc many) (x ∷ one) (y ∷ other) in_one in_other same =
        let first : x ≡ y = same_Some x y (same 0 (omega arith)) in
        let rest : take many one ≡ take many other = alike many one other (omega (arith, in_one)) (omega (arith, in_other)) (λ k within. same (suc k) (omega (arith, within))) in
        cc

-- the places are the same below the length of the common front
pub same_places : (one other : List Point) (many : ℕ) → IsSameFront one other many → SamePlaces one other many
same_places one other many front time within = grind (arith, nat_tests, common_steps, gets)
