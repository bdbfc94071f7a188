-- What lists gain and lose: words for what a ledger of costs keeps (this project's choice).
use Rattle.std.specs.Prelude.{◌⊎◌, ◌↔◌, List, Contains}

-- new has the elements of old, and all that have the property
abbrev pub GainsEach : {X : Type 0} → List X → List X → (X → Type 0) → Type 0
GainsEach {X} old new P = (x : X) → Contains new x ↔ (Contains old x ⊎ P x)

-- new has the elements of old that haven't the property
abbrev pub LosesEach : {X : Type 0} → List X → List X → (X → Type 0) → Type 0
LosesEach {X} old new P = (x : X) → Contains new x ↔ (Contains old x × (P x → ⊥))
