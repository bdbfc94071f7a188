-- What came to a set and went from it (this project's choice of words). Sets are lists of what they have.
use Rattle.std.specs.Prelude.{◌≡◌, ◌⊎◌, ◌↔◌, Bool, List, Contains, AllPairs, IsTrue}
use Rattle.std.specs.declared.cmp.Ordering.{Ordering}
use Rattle.std.specs.declared.cmp.Ordering.TheVariants.{Less}
use Rattle.plan_table.specs.Sets.{Gains, Loses}

-- what came and what went, if that is followed
pub record Moved (X : Type 0) : Type 0 where
  pub followed : Bool
  pub came : List X
  pub gone : List X

-- what the new set has and the old one hasn't came, and what the old one has and the new one hasn't went
pub record AreApart {X : Type 0} (old new came gone : List X) : Type 0 where
  pub came_is : (x : X) → Contains came x ↔ (Contains new x × (Contains old x → ⊥))
  pub gone_is : (x : X) → Contains gone x ↔ (Contains old x × (Contains new x → ⊥))

-- where they are followed, the moves are those from the old set to the new one
abbrev pub Tell : {X : Type 0} → List X → List X → Moved X → Type 0
Tell old new moves = IsTrue moves.followed → AreApart old new moves.came moves.gone

-- moves from any set to the old one become those to the new one
abbrev pub Follows : {X : Type 0} → List X → List X → Moved X → Moved X → Type 0
Follows {X} old new before after = (first : List X) → Tell first old before → Tell first new after

-- the element leaves the one set, and is put into the other if it wasn't there
pub record Crosses {X : Type 0} (from to : List X) (item : X) (left got : List X) : Type 0 where
  pub leaves : Loses from left item
  pub goes_in : (x : X) → Contains got x ↔ (Contains to x ⊎ ((x ≡ item) × (Contains from item → ⊥)))

-- the moves follow an element that comes to a set without it
abbrev pub Comes : {X : Type 0} → Moved X → X → Moved X → Type 0
Comes {X} before item after = (old new : List X) → (Contains old item → ⊥) → Gains old new item → Follows old new before after

-- and one that goes from a set that has it
abbrev pub Goes : {X : Type 0} → Moved X → X → Moved X → Type 0
Goes {X} before item after = (old new : List X) → Contains old item → Loses old new item → Follows old new before after

-- new has the elements of old and those
abbrev pub GainsAll : {X : Type 0} → List X → List X → List X → Type 0
GainsAll {X} old new added = (x : X) → Contains new x ↔ (Contains old x ⊎ Contains added x)

-- new has the elements of old but for those
abbrev pub LosesAll : {X : Type 0} → List X → List X → List X → Type 0
LosesAll {X} old new lost = (x : X) → Contains new x ↔ (Contains old x × (Contains lost x → ⊥))

-- the law of moves: the old set without what went, and with what came, is the new one
abbrev pub MovesLeadOn : Type 0 → Type 0
MovesLeadOn X = (old new came gone : List X) → AreApart old new came gone → (x : X) → Contains new x ↔ ((Contains old x × (Contains gone x → ⊥)) ⊎ Contains came x)

-- each element comes before those after it
abbrev pub Ascend : {X : Type 0} → (X → X → Ordering) → List X → Type 0
Ascend cmp list = AllPairs (λ a b. cmp a b ≡ Less) list
