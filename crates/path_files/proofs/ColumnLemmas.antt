-- How the front of a field grows.
use Rattle.std.proofs.Common.{◌≡◌, ℕ, suc, ◌+◌, ◌-◌, ◌<◌, ◌≤◌, List, [], ◌∷◌, ◌++◌, length, length-drop, take, drop, get_or, ap, ◌∙◌, arith}
use Rattle.std.proofs.Math.Seq.{take-suc}
use Rattle.std.proofs.lemmas.List.{get_or-drop}

pub front_more : (line : List ℕ) (front at : ℕ) → front ≤ at → at < length line → take (at + 1 - front) (drop front line) ≡ take (at - front) (drop front line) ++ get_or line at 0 ∷ []
front_more line front at reached within =
    let size : ℕ = at - front in
    let more : at + 1 - front ≡ suc size = omega arith in
    let inside : size < length (drop front line) = omega (arith, length-drop front line) in
    let place : front + size ≡ at = omega arith in
    let same : get_or (drop front line) size 0 ≡ get_or line at 0 = get_or-drop front line size 0 ∙ ap (λ n. get_or line n 0) place in
    rw more (take-suc (drop front line) size 0 inside ∙ ap (λ b. take size (drop front line) ++ b ∷ []) same)
