-- What one list has beside another, as sets (this project's choice of words).
use Rattle.std.specs.Prelude.{◌≡◌, ◌⊎◌, ◌↔◌, List, Contains}

-- new has that element, and those of old
abbrev pub Gains : {X : Type 0} → List X → List X → X → Type 0
Gains {X} old new added = (x : X) → Contains new x ↔ (Contains old x ⊎ (x ≡ added))

-- new has the elements of old but for that one
abbrev pub Loses : {X : Type 0} → List X → List X → X → Type 0
Loses {X} old new lost = (x : X) → Contains new x ↔ (Contains old x × (x ≡ lost → ⊥))
