-- Moves out of cells, by the records of them.
use Rattle.std.proofs.Common.{◌≡◌, ◌≢◌, ℕ, ◌+◌, List, slice_get, Option, Some, None, Bool, true, false, cond, refl, sym, ap, ◌∙◌, arith}
use mathlib.Core.Logic.{◌↔◌}
use Rattle.std.specs.Option.{option_and_then}
use Rattle.std.proofs.lemmas.Bool.Decides.{nat_tests}
use Rattle.std.proofs.lemmas.Option.{slice_get_within}
use Rattle.grid_cells.specs.Cell.{Point}
use Rattle.plan_table.specs.Route.{Route, Fleet, position}
use Rattle.where_index.specs.Records.{route, stand_at, hop_at, hop_between, hop, leg_between, leg_at, same_point}
use Rattle.where_index.specs.declared.trails.Hop.{Hop}
use Rattle.where_index.specs.declared.moves.Move.{Move}
use Rattle.where_index.specs.Crowds.{Moves}
use Rattle.where_index.specs.Asked.{MovesFrom}
use Rattle.where_index.specs.Index.{all_of}
use Rattle.where_index.proofs.Standing.{early_stand}

guarded : (b : Bool) (o : Option Point) (cell : Point) → cond b o None ≡ Some cell → (b ≡ true) × (o ≡ Some cell)
guarded b o cell e = grind arith

pub leg_cell : (o : Option Point) (move : Option Hop) (a b : Point) → leg_between o move ≡ Some (hop a b) → o ≡ Some a
leg_cell o move a b e = grind arith

-- ---- a record Move is a move out of a cell
hop_cases : (o p : Option Point) (h : Hop) → hop_between o p ≡ Some h → (o ≡ Some h.from) × (p ≡ Some h.to) × (same_point h.from h.to ≡ false)
hop_cases o p h is = grind (arith, nat_tests)

pub hop_moves : (path : List Point) (leaves : Bool) (t : ℕ) (h : Hop) → hop_at path t ≡ Some h → (position (route path leaves) t ≡ Some h.from) × (position (route path leaves) (t + 1) ≡ Some h.to) × (h.from ≢ h.to)
hop_moves path leaves t h is = grind (arith, nat_tests, hop_cases (slice_get path t) (slice_get path (t + 1)) h is, slice_get_within path (t + 1) h.to)

pub points_one : (a b : Point) → same_point a b ≡ true → a ≡ b
points_one a b is = grind (arith, nat_tests)

other_points : (a b : Point) (v : Bool) → same_point a b ≡ v → (a ≢ b) → v ≡ false
other_points a b v e apart = grind (arith, nat_tests)

-- a move out of a cell is a record Move
pub moves_hop : (path : List Point) (leaves : Bool) (t : ℕ) (from to : Point) → position (route path leaves) t ≡ Some from → position (route path leaves) (t + 1) ≡ Some to → from ≢ to → hop_at path t ≡ Some (record { from = from; to = to })
moves_hop path leaves t from to starts arrives apart = grind (arith, nat_tests, other_points from to (same_point from to) refl apart)

-- ---- the moves of a fleet
pub hop_of : (o : Option Route) (t : ℕ) (h : Hop) → option_and_then (λ r. hop_at r.path t) o ≡ Some h → (option_and_then (λ r. position r t) o ≡ Some h.from) × (option_and_then (λ r. position r (t + 1)) o ≡ Some h.to) × (h.from ≢ h.to)
hop_of None t h is = absurd (cc)
hop_of (Some r) t h is = hop_moves r.path r.leaves t h is

pub of_hop : (o : Option Route) (t : ℕ) (from to : Point) → option_and_then (λ r. position r t) o ≡ Some from → option_and_then (λ r. position r (t + 1)) o ≡ Some to → from ≢ to → option_and_then (λ r. hop_at r.path t) o ≡ Some (record { from = from; to = to })
of_hop o t from to starts arrives apart = grind (arith, moves_hop)

-- ---- a step to another cell is a move
pub hop_leg : (o : Option Route) (t : ℕ) (h : Hop) → option_and_then (λ r. hop_at r.path t) o ≡ Some h → option_and_then (λ r. leg_at r t) o ≡ Some h
hop_leg None t h is = absurd (cc)
hop_leg (Some r) t h is =
    let parts = hop_cases (slice_get r.path t) (slice_get r.path (t + 1)) h is in
    let within = slice_get_within r.path (t + 1) h.to parts.1 in
    let stands : stand_at r t ≡ Some h.from = early_stand r t within ∙ parts.0 in
    ap (λ o. leg_between o (hop_at r.path t)) stands ∙ ap (λ o. leg_between (Some h.from) o) is

pub leg_hop : (o : Option Route) (t : ℕ) (a b : Point) → a ≢ b → option_and_then (λ r. leg_at r t) o ≡ Some (hop a b) → option_and_then (λ r. hop_at r.path t) o ≡ Some (hop a b)
leg_hop None t a b apart is = absurd (cc)
leg_hop (Some r) t a b apart is = go (hop_at r.path t) refl where
  stands : stand_at r t ≡ Some a
  stands = leg_cell (stand_at r t) (hop_at r.path t) a b is

  go : (move : Option Hop) → hop_at r.path t ≡ move → hop_at r.path t ≡ Some (hop a b)
  go None e =
      let waits : Some (hop a a) ≡ Some (hop a b) = sym (ap (λ o. leg_between o None) stands) ∙ (sym (ap (λ o. leg_between (stand_at r t) o) e) ∙ is) in
      let one : hop a a ≡ hop a b = cc in
      absurd (apart (ap (λ (h : Hop). h.to) one))
  go (Some m) e =
      let goes : Some (hop a m.to) ≡ Some (hop a b) = sym (ap (λ o. leg_between o (Some m)) stands) ∙ (sym (ap (λ o. leg_between (stand_at r t) o) e) ∙ is) in
      let one : hop a m.to ≡ hop a b = cc in
      let from : Some m.from ≡ Some a = sym (hop_cases (slice_get r.path t) (slice_get r.path (t + 1)) m e).0 ∙ (guarded _ _ _ stands).1 in
      let start : m.from ≡ a = cc in
      e ∙ λ i. Some (record { from = start i; to = (one i).to })

pub movers_exact : (fleet : Fleet) (cell : Point) (time : ℕ) (m : Move) → Moves (all_of leg_at fleet) cell time m ↔ MovesFrom fleet time cell m
movers_exact fleet cell time m = (
  (λ h. let parts = hop_of (fleet m.agent) time (hop cell m.to) (leg_hop (fleet m.agent) time cell m.to h.1 h.0) in record { starts = parts.0; arrives = parts.1; moves = parts.2 }),
  (λ h. (hop_leg (fleet m.agent) time (hop cell m.to) (of_hop (fleet m.agent) time cell m.to h.starts h.arrives h.moves), h.moves)),
)
