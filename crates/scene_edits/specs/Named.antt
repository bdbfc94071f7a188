-- The agents that changes name (this project's choice).
use Rattle.std.specs.Prelude.{◌≡◌, ◌⊎◌, ℕ, List, All, Contains}
use Rattle.scene_edits.specs.declared.changes.Change.{Change}
use Rattle.scene_edits.specs.declared.changes.Change.TheVariants.{Added, Dropped, Aimed, Moved, Flipped, Same}

-- the change is one of the agent
abbrev pub NamesAgent : Change → ℕ → Type 0
NamesAgent (Added a) agent = a ≡ agent
NamesAgent (Dropped a row) agent = a ≡ agent
NamesAgent (Aimed a goal) agent = a ≡ agent
NamesAgent (Moved a plan since) agent = a ≡ agent
NamesAgent (Flipped cell) agent = ⊥
NamesAgent (Same cell) agent = ⊥

-- one of the changes is of the agent
abbrev pub IsNamed : List Change → ℕ → Type 0
IsNamed changes agent = (change : Change) × Contains changes change × NamesAgent change agent

-- each agent was there, or the change is one of it
abbrev pub JoinBy : Change → List ℕ → List ℕ → Type 0
JoinBy change old new = All (λ agent. Contains old agent ⊎ NamesAgent change agent) new
