-- Moves out of one cell in one step, kept where more than one agent makes them: words for the program's own steps (this
-- project's choice).
use Rattle.std.specs.Prelude.{◌≡◌, ◌≢◌, ◌↔◌, ℕ, Bool, ◌&&◌, ◌==◌, ◌<◌, Option, Some, None, List, [], ◌∷◌, length, Contains}
use Rattle.std.specs.Map.{lookup}
use Rattle.grid_cells.specs.Cell.{Point}
use Rattle.where_index.specs.declared.moves.Move.{Move}
use Rattle.where_index.specs.declared.trails.Hop.{Hop}
use Rattle.where_index.specs.declared.crowds.Place.{Place}
use Rattle.where_index.specs.Records.{hop}
use Rattle.where_index.specs.Changes.{set_at}
use Rattle.where_index.specs.Moves.{PutsMove, LosesMover}

abbrev pub place : Point → ℕ → Place
place cell time = record { cell = cell; time = time }

-- the two have the same cell and time
abbrev pub place_eq : Place → Place → Bool
place_eq a b = (a.cell.y == b.cell.y && a.cell.x == b.cell.x) && a.time == b.time

-- the moves that are kept of a cell and a step
abbrev pub crowd_at : List (Place × List Move) → Point → ℕ → Option (List Move)
crowd_at lists cell time = lookup (place_eq (place cell time)) lists

-- the agents move so out of the cell in the step, by what they do over time
abbrev pub Moves : (ℕ → ℕ → Option Hop) → Point → ℕ → Move → Type 0
Moves f cell time m = (f m.agent time ≡ Some (record { from = cell; to = m.to })) × (cell ≢ m.to)

-- where moves are kept they are all of them, and where none are there is at most one
abbrev pub IsCrowd : Option (List Move) → (Move → Type 0) → Type 0
IsCrowd (Some moves) P = (m : Move) → Contains moves m ↔ P m
IsCrowd None P = (m n : Move) → P m → P n → m ≡ n

-- so they are at each cell in each step
abbrev pub HasCrowds : List (Place × List Move) → (ℕ → ℕ → Option Hop) → Type 0
HasCrowds lists f = (cell : Point) (time : ℕ) → IsCrowd (crowd_at lists cell time) (Moves f cell time)

-- one of those who move out of the cell in the step, or none where nobody does
abbrev pub IsBeside : (ℕ → ℕ → Option Hop) → Point → ℕ → Option Move → Type 0
IsBeside f cell time (Some step) = Moves f cell time step
IsBeside f cell time None = (step : Move) → Moves f cell time step → ⊥

-- what is kept of the cell and the step changes in that way, and of no other
pub record ChangesAt (old new : List (Place × List Move)) (cell : Point) (time : ℕ) (Way : Option (List Move) → Option (List Move) → Type 0) : Type 0 where
  pub here : Way (crowd_at old cell time) (crowd_at new cell time)
  pub elsewhere : (c : Point) (t : ℕ) → ((c ≡ cell) → (t ≡ time) → ⊥) → crowd_at new c t ≡ crowd_at old c t

-- the moves that are kept, or else the one that is told
abbrev pub begun : Option (List Move) → Option Move → Option (List Move)
begun (Some moves) beside = Some moves
begun None (Some m) = Some (m ∷ [])
begun None None = None

-- the one has the moves of the other with that one put in, or both keep none
abbrev pub IsJoined : Move → Option (List Move) → Option (List Move) → Type 0
IsJoined added (Some old) (Some new) = PutsMove old new added
IsJoined added None None = Unit {0}
IsJoined added (Some old) None = ⊥
IsJoined added None (Some new) = ⊥

-- at most one move is kept
abbrev pub HasFew : Option (List Move) → Type 0
HasFew None = Unit {0}
HasFew (Some moves) = length moves < 2

-- the one has the moves of the other but for the agent's, or both keep none
abbrev pub IsLessened : ℕ → Option (List Move) → Option (List Move) → Type 0
IsLessened agent (Some old) (Some new) = LosesMover old new agent
IsLessened agent None None = Unit {0}
IsLessened agent (Some old) None = ⊥
IsLessened agent None (Some new) = ⊥

-- the same, or none are kept where that leaves at most one
abbrev pub IsCrowdLeft : ℕ → Option (List Move) → Option (List Move) → Type 0
IsCrowdLeft agent (Some old) (Some new) = LosesMover old new agent
IsCrowdLeft agent None None = Unit {0}
IsCrowdLeft agent (Some old) None = (rest : List Move) × LosesMover old rest agent × (length rest < 2)
IsCrowdLeft agent None (Some new) = ⊥

-- the agent's step out of the cell comes to those of others, of which one is told, where nothing is known of the agent
abbrev pub AddsStep : List (Place × List Move) → List (Place × List Move) → Point → ℕ → Option Move → Move → Type 0
AddsStep old new cell time beside step = (f : ℕ → ℕ → Option Hop) → HasCrowds old f → f step.agent time ≡ None → IsBeside f cell time beside → HasCrowds new (set_at f step.agent time (Some (hop cell step.to)))
