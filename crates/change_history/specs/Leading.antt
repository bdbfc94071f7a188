-- Records of what came and went, one element after the other (this project's choice of words).
use Rattle.std.specs.Prelude.{◌≡◌, ◌↔◌, ℕ, ◌+◌, Bool, true, false, List, [], ◌∷◌, Contains, length}
use Rattle.plan_table.specs.Sets.{Gains, Loses}
use Rattle.change_history.specs.declared.records.Record.{Record}
use Rattle.change_history.specs.Moved.{Moved, AreApart, Follows}

-- the element wasn't in the old set and came, or was and went
abbrev pub Turns : {X : Type 0} → List X → List X → Bool → X → Type 0
Turns old new true item = (Contains old item → ⊥) × Gains old new item
Turns old new false item = Contains old item × Loses old new item

-- both sets have the same
abbrev pub AreSame : {X : Type 0} → List X → List X → Type 0
AreSame {X} old new = (x : X) → Contains new x ↔ Contains old x

-- the records lead from the old set to the new one, each with an effect
abbrev pub Lead : {X : Type 0} → List (Record X) → List X → List X → Type 0
Lead [] old new = AreSame old new
Lead {X} (record_of ∷ later) old new = (mid : List X) × Turns old mid record_of.came record_of.item × Lead later mid new

-- moves follow one record more
abbrev pub Counts : {X : Type 0} → Moved X → Record X → Moved X → Type 0
Counts {X} before one after = (old new : List X) → Turns old new one.came one.item → Follows old new before after

-- the records are those of what came and went, as many, and lead wherever it does
pub record AreRecords {X : Type 0} (came gone : List X) (records : List (Record X)) : Type 0 where
  pub many : length records ≡ length came + length gone
  pub lead : (old new : List X) → AreApart old new came gone → Lead records old new
