-- How a ring is found: from each agent to the next. Words for the program's own steps (this project's choice).
use Rattle.std.specs.Prelude.{◌≡◌, ◌≢◌, ℕ, ◌+◌, ◌<◌, ◌≤◌, Option, Some, IfSome, List, length, slice_index, Contains, All, AllPairs}
use Rattle.grid_cells.specs.Cell.{Point}
use Rattle.plan_table.specs.Route.{Fleet, position_of}
use Rattle.mapf_rules.specs.Cycles.{MovesOut, IsRing}

-- the one agent that moves out of the cell in the step
pub record IsSoleMover (fleet : Fleet) (time : ℕ) (cell : Point) (agent : ℕ) : Type 0 where
  pub moves : MovesOut fleet time agent cell
  pub only : (other : ℕ) → MovesOut fleet time other cell → other ≡ agent

-- the agent moves to the cell in the step
pub record MovesTo (fleet : Fleet) (time agent : ℕ) (cell : Point) : Type 0 where
  pub to : position_of fleet agent (time + 1) ≡ Some cell
  pub moves : position_of fleet agent time ≢ Some cell

-- in each fleet told, where the mover goes to the cell: a ring that was found has that member
abbrev pub FindsRingWith : (Fleet → Type 0) → ℕ → ℕ → Point → ℕ → Option (List ℕ) → Type 0
FindsRingWith Tells time mover to member found =
    (fleet : Fleet) → Tells fleet → MovesTo fleet time mover to → IfSome found (λ ring. IsRing fleet time ring × Contains ring member)

-- likewise: each ring that begins with the mover is the one that was found
abbrev pub IsOnlyFrom : (Fleet → Type 0) → ℕ → ℕ → Point → Option (List ℕ) → Type 0
IsOnlyFrom Tells time mover to found =
    (fleet : Fleet) (ring : List ℕ) → Tells fleet → MovesTo fleet time mover to → IsRing fleet time ring
    → slice_index ring 0 ≡ mover → found ≡ Some ring

-- likewise: each ring that has the mover
abbrev pub IsOnlyThrough : (Fleet → Type 0) → ℕ → ℕ → Point → Option (List ℕ) → Type 0
IsOnlyThrough Tells time mover to found =
    (fleet : Fleet) (ring : List ℕ) → Tells fleet → MovesTo fleet time mover to → IsRing fleet time ring
    → Contains ring mover → found ≡ Some ring

-- likewise: each ring that begins with the mover and has that member
abbrev pub IsOnlyWith : (Fleet → Type 0) → ℕ → ℕ → Point → ℕ → Option (List ℕ) → Type 0
IsOnlyWith Tells time mover to member found =
    (fleet : Fleet) (ring : List ℕ) → Tells fleet → MovesTo fleet time mover to → IsRing fleet time ring
    → slice_index ring 0 ≡ mover → Contains ring member → found ≡ Some ring

-- likewise: the least agent of each ring that has the mover is the one that was found, beside a cell
abbrev pub IsLeastRound : (Fleet → Type 0) → ℕ → ℕ → Point → Option (ℕ × Point) → Type 0
IsLeastRound Tells time mover to found =
    (fleet : Fleet) (ring : List ℕ) → Tells fleet → MovesTo fleet time mover to → IsRing fleet time ring
    → Contains ring mover → (cell : Point) × (found ≡ Some (slice_index ring 0, cell))

-- the agent moves into the cell that the next one alone moves out of
pub record IsNext (fleet : Fleet) (time agent next : ℕ) : Type 0 where
  pub cell : Point
  pub to : position_of fleet agent (time + 1) ≡ Some cell
  pub moves : position_of fleet agent time ≢ Some cell
  pub sole : IsSoleMover fleet time cell next

-- agents that each follow the one before it in the list
pub record IsChain (fleet : Fleet) (time first : ℕ) (chain : List ℕ) : Type 0 where
  pub some_agent : 0 < length chain
  pub starts : slice_index chain 0 ≡ first
  pub links : (k : ℕ) → k + 1 < length chain → IsNext fleet time (slice_index chain k) (slice_index chain (k + 1))
  pub distinct : AllPairs (λ a b. a ≢ b) chain
  pub above : All (λ a. first ≤ a) chain

-- the ring begins with the chain
pub record BeginsWith (ring chain : List ℕ) : Type 0 where
  pub long : length chain ≤ length ring
  pub same : (k : ℕ) → k < length chain → slice_index ring k ≡ slice_index chain k

-- each ring of that time from that agent begins with the chain
abbrev pub IsForced : Fleet → ℕ → ℕ → List ℕ → Type 0
IsForced fleet time first chain = (ring : List ℕ) → IsRing fleet time ring → slice_index ring 0 ≡ first → BeginsWith ring chain

-- the agents seen on a walk from the first one, from each to its next; the last one goes to the cell ahead, and the least
-- one to that cell
pub record IsWalked (fleet : Fleet) (time first : ℕ) (seen : List ℕ) (least : ℕ) (to ahead : Point) : Type 0 where
  pub last : ℕ
  pub last_seen : Contains seen last
  pub goes : MovesTo fleet time last ahead
  pub first_seen : Contains seen first
  pub closed : (a next : ℕ) → Contains seen a → a ≢ last → IsNext fleet time a next → Contains seen next
  pub reached : (b : ℕ) → Contains seen b → b ≢ first → (a : ℕ) × Contains seen a × (a ≢ last) × IsNext fleet time a b
  pub least_seen : Contains seen least
  pub least_goes : MovesTo fleet time least to
  pub lower : (a : ℕ) → Contains seen a → least ≤ a
  pub inside : (ring : List ℕ) → IsRing fleet time ring → Contains ring first → (a : ℕ) → Contains seen a → Contains ring a
