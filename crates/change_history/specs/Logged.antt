-- What a log keeps: the records of each version, in one row (this project's choice).
use Rattle.std.specs.Prelude.{◌≡◌, ℕ, List, [], ◌∷◌, ◌++◌, take, drop}
use Rattle.change_history.specs.declared.records.Record.{Record}
use Rattle.change_history.specs.Leading.{Lead, AreRecords}
use Rattle.change_history.specs.Moved.{Moved}

-- a row, cut into parts of so many elements
abbrev pub parts : {X : Type 0} → List ℕ → List X → List (List X)
parts [] row = []
parts (count ∷ counts) row = take count row ∷ parts counts (drop count row)

-- parts joined into one row
abbrev pub joined : {X : Type 0} → List (List X) → List X
joined [] = []
joined (part ∷ later) = part ++ joined later

-- the log has the records of what came and went as its newest version
pub record Logs {X : Type 0} (old : List (List (Record X))) (came gone : List X) (new : List (List (Record X))) : Type 0 where
  pub records : List (Record X)
  pub are : AreRecords came gone records
  pub kept : new ≡ old ++ records ∷ []

-- the records of the versions from that one on lead from the old set to the new one
abbrev pub LeadSince : {X : Type 0} → List (List (Record X)) → ℕ → List X → List X → Type 0
LeadSince log version old new = Lead (joined (drop version log)) old new
