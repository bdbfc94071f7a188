-- What lists gain and lose in several steps.
use Rattle.std.proofs.Common.{◌≡◌, ◌⊎◌, ◌+◌, ◌<◌, ℕ, List, length, take, get_or, Contains, arith}
use mathlib.Core.Logic.{◌↔◌}
use Rattle.std.proofs.lemmas.List.{take_more}
use Rattle.plan_table.proofs.Sets.{push_iff}
use Rattle.cost_ledger.specs.Sets.{GainsEach, LosesEach}

-- what has one property or the other, in two steps
module _ {X : Type 0} (old mid new : List X) (P Q R : X → Type 0) (more : (y : X) → R y ↔ (P y ⊎ Q y)) where
  pub gains_then : GainsEach old mid P → GainsEach mid new Q → GainsEach old new R
  gains_then first second y = grind (arith, more y, first y, second y)

  pub loses_then : LosesEach old mid P → LosesEach mid new Q → LosesEach old new R
  loses_then first second y = grind (arith, more y, first y, second y)

-- the first elements of a list, one further
pub taken_more : {X : Type 0} (xs : List X) (i : ℕ) (x : X) → i < length xs → x ≡ get_or xs i x → (y : X) → Contains (take (i + 1) xs) y ↔ (Contains (take i xs) y ⊎ (y ≡ x))
taken_more xs i x within is y = rw (take_more xs i x within, ← is) (push_iff (take i xs) x y)
