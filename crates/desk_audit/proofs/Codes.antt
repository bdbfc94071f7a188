-- Links, and the places that they stand for.
use Rattle.std.proofs.Common.{◌≡◌, ◌≢◌, ℕ, zero, suc, ◌+◌, ◌-◌, Some, None, refl, ap, ◌∙◌, arith}
use Rattle.desk_audit.specs.Links.{place_of}

pub place_none : (code : ℕ) → code ≡ 0 → place_of code ≡ None
unfolding place_of
place_none zero none = refl
place_none (suc place) none = absurd (omega (arith, none))

pub place_before : (code : ℕ) → code ≢ 0 → place_of code ≡ Some (code - 1)
unfolding place_of
place_before zero some = absurd (some refl)
place_before (suc place) some =
    let same : place ≡ suc place - 1 = omega arith in
    ap Some same

pub place_next : (place : ℕ) → place_of (place + 1) ≡ Some place
place_next place =
    let same : place + 1 - 1 ≡ place = omega arith in
    place_before (place + 1) (λ e. omega (arith, e)) ∙ ap Some same
