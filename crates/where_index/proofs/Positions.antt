-- Where an agent is, by its records.
use Rattle.std.proofs.Common.{◌≡◌, ◌⊎◌, inl, inr, ℕ, ◌+◌, min, ◌<◌, ◌≤◌, List, length, slice_get, Contains, Option, Some, None, Bool, true, false, IsTrue, refl, ap, subst, arith}
use mathlib.Core.Logic.{◌↔◌}
use Rattle.std.specs.Option.{option_and_then, option_map, unwrap_or, IsSome}
use Rattle.std.proofs.lemmas.Bool.Decides.{nat_tests}
use Rattle.std.proofs.lemmas.Option.{slice_get_within, slice_get_cases}
use Rattle.grid_cells.specs.Cell.{Point}
use Rattle.plan_table.specs.Path.{last_index}
use Rattle.plan_table.specs.Route.{Route, Fleet, position, position_of, last_of}
use Rattle.where_index.specs.declared.spot_sets.Spot.{Spot}
use Rattle.where_index.specs.Spots.{AreFrom, AreRising, spot, HasAt}
use Rattle.where_index.specs.ByCell.{ByCell, spots_at}
use Rattle.where_index.specs.Shown.{HasAgentBy, HasPassing}
use Rattle.where_index.specs.Records.{route, stand_at, tail_at, hop_at, hop, leg_between, leg_at, rest_at}
use Rattle.where_index.specs.Changes.{HasSpots}
use Rattle.where_index.specs.declared.trails.Hop.{Hop}
use Rattle.where_index.specs.declared.passings.Passing.{Passing}
use Rattle.where_index.specs.declared.ends.End.{End}
use Rattle.where_index.specs.declared.occupants.Occupants.{Occupants}
use Rattle.where_index.specs.Ends.{IsEndOf}
use Rattle.where_index.specs.Asked.{Passes, AreOccupants}
use Rattle.where_index.specs.Index.{all_of}
use Rattle.where_index.proofs.Moving.{leg_cell, hop_of, leg_hop}

from_stand : (path : List Point) (leaves : Bool) (t : ℕ) (cell : Point) → stand_at (route path leaves) t ≡ Some cell → position (route path leaves) t ≡ Some cell
from_stand path leaves t cell e = grind (arith, nat_tests, slice_get_within path t cell)

from_rest : (path : List Point) (leaves : Bool) (x t : ℕ) (cell : Point) → tail_at (route path leaves) x ≡ Some cell → x ≤ t → position (route path leaves) t ≡ Some cell
from_rest path leaves x t cell e h = grind (arith, nat_tests)

early_or_late : (path : List Point) (t : ℕ) → (t + 1 < length path) ⊎ (length path ≤ t + 1)
early_or_late path t = grind arith

to_either : (path : List Point) (leaves : Bool) (t : ℕ) (cell : Point) → position (route path leaves) t ≡ Some cell → (stand_at (route path leaves) t ≡ Some cell) ⊎ ((x : ℕ) × (x ≤ t) × (tail_at (route path leaves) x ≡ Some cell))
to_either path true t cell e = inl (grind (arith, nat_tests, slice_get_within path t cell, slice_get_within path (last_index path) cell))
to_either path false t cell e = elim (early_or_late path t) [
  | inl early ↦ inl (grind (arith, nat_tests))
  | inr late ↦ inr (last_index path, grind (arith, nat_tests, slice_get_within path (last_index path) cell), grind (arith, nat_tests, slice_get_within path (last_index path) cell))
]

module _ (t : ℕ) (cell : Point) where
  stands_is : (o : Option Route) → option_and_then (λ r. stand_at r t) o ≡ Some cell → option_and_then (λ r. position r t) o ≡ Some cell
  stands_is o e = grind (arith, from_stand)

  rests_is : (x : ℕ) → x ≤ t → (o : Option Route) → option_and_then (λ r. tail_at r x) o ≡ Some cell → option_and_then (λ r. position r t) o ≡ Some cell
  rests_is x h o e = grind (arith, from_rest)

  either_is : (o : Option Route) → option_and_then (λ r. position r t) o ≡ Some cell → (option_and_then (λ r. stand_at r t) o ≡ Some cell) ⊎ ((x : ℕ) × (x ≤ t) × (option_and_then (λ r. tail_at r x) o ≡ Some cell))
  either_is None e = absurd (cc)
  either_is (Some r) e = to_either r.path r.leaves t cell e

-- ---- what spots show of the cells of agents
abbrev pub ShowCells : ByCell → (ℕ → ℕ → Option Point) → Type 0
ShowCells sets f = ((cell : Point) (s : Spot) → Contains (spots_at sets cell) s → f s.step.agent s.time ≡ Some cell) × ((cell : Point) (time agent : ℕ) → f agent time ≡ Some cell → HasAt (spots_at sets cell) time agent)

some_leg : (o : Option Point) (move : Option Hop) (a : Point) → o ≡ Some a → (b : Point) × (leg_between o move ≡ Some (hop a b))
some_leg o None a e = (a, ap (λ p. leg_between p None) e)
some_leg o (Some m) a e = (m.to, ap (λ p. leg_between p (Some m)) e)

module _ (g : Route → ℕ → Option Point) (k : Route → ℕ → Option Hop) where
  cell_shown : (o : Option Route) (t : ℕ) (a b : Point) → option_and_then (λ r. leg_between (g r t) (k r t)) o ≡ Some (hop a b) → option_and_then (λ r. g r t) o ≡ Some a
  cell_shown o t a b e = grind (arith, leg_cell)

  leg_shown : (o : Option Route) (t : ℕ) (a : Point) → option_and_then (λ r. g r t) o ≡ Some a → (b : Point) × (option_and_then (λ r. leg_between (g r t) (k r t)) o ≡ Some (hop a b))
  leg_shown None t a e = absurd (cc)
  leg_shown (Some r) t a e = some_leg (g r t) (k r t) a e

  show : (sets : ByCell) (fleet : Fleet) → HasSpots sets (all_of (λ r t. leg_between (g r t) (k r t)) fleet) → ShowCells sets (all_of g fleet)
  show sets fleet has = (
    (λ cell s within. cell_shown (fleet s.step.agent) s.time cell s.step.to ((has cell s).0 within)),
    (λ cell time agent at. let leg = leg_shown (fleet agent) time cell at in (leg.0, (has cell (spot time agent leg.0)).1 leg.1)),
  )

pub stands_show : (stands : ByCell) (fleet : Fleet) → HasSpots stands (all_of leg_at fleet) → ShowCells stands (all_of stand_at fleet)
stands_show stands fleet has = show stand_at (λ r t. hop_at r.path t) stands fleet has

pub tails_show : (tails : ByCell) (fleet : Fleet) → HasSpots tails (all_of rest_at fleet) → ShowCells tails (all_of tail_at fleet)
tails_show tails fleet has = show tail_at (λ r t. None) tails fleet has

pub standing_exact : (stands tails : ByCell) (s1 s2 : List Spot) (fleet : Fleet) (cell : Point) (time : ℕ) → ShowCells stands (all_of stand_at fleet) → ShowCells tails (all_of tail_at fleet) → AreFrom (spots_at stands cell) time s1 → AreFrom (spots_at tails cell) 0 s2 → (a : ℕ) → (HasAgentBy time s1 a ⊎ HasAgentBy time s2 a) ↔ (position_of fleet a time ≡ Some cell)
standing_exact stands tails s1 s2 fleet cell time has_s has_r b1 b2 a = (
  (λ h. elim h [
    | inl (s, within, (is, early)) ↦
        let inside = (b1 s).0 within in
        let stood = subst (λ q. all_of stand_at fleet s.step.agent q ≡ Some cell) {x = s.time} (omega (arith, inside.1)) (has_s.0 cell s inside.0) in
        subst (λ q. position_of fleet q time ≡ Some cell) is (stands_is time cell (fleet s.step.agent) stood)
    | inr (s, within, (is, early)) ↦
        subst (λ q. position_of fleet q time ≡ Some cell) is (rests_is time cell s.time early (fleet s.step.agent) (has_r.0 cell s ((b2 s).0 within).0))
  ]),
  (λ h. elim (either_is time cell (fleet a) h) [
    | inl stood ↦ let v = has_s.1 cell time a stood in inl (spot time a v.0, (b1 (spot time a v.0)).1 (v.1, omega arith), (refl, omega arith))
    | inr w ↦ let v = has_r.1 cell w.0 a w.2 in inr (spot w.0 a v.0, (b2 (spot w.0 a v.0)).1 (v.1, omega arith), (refl, w.1))
  ]),
)

-- ---- a record Stand or Tail is no later than the last index
stand_early : (o : Option Route) (t : ℕ) (cell : Point) → option_and_then (λ r. stand_at r t) o ≡ Some cell → t ≤ unwrap_or (option_map (λ (r : Route). last_index r.path) o) 0
stand_early o t cell e = grind (arith, nat_tests, slice_get_within)

-- and before it, where its agent doesn't leave
stand_passes : (o : Option Route) (t : ℕ) (cell : Point) → option_and_then (λ r. stand_at r t) o ≡ Some cell → (t < unwrap_or (option_map (λ (r : Route). last_index r.path) o) 0) ⊎ IsTrue (unwrap_or (option_map (λ (r : Route). r.leaves) o) false)
stand_passes o t cell e = grind (arith, nat_tests, slice_get_within)

tail_last : (o : Option Route) (t : ℕ) (cell : Point) → option_and_then (λ r. tail_at r t) o ≡ Some cell → t ≡ unwrap_or (option_map (λ (r : Route). last_index r.path) o) 0
tail_last o t cell e = grind (arith, nat_tests)

pub passing_exact : (stands tails : ByCell) (s1 s2 : List Spot) (fleet : Fleet) (cell : Point) (from : ℕ) → ShowCells stands (all_of stand_at fleet) → ShowCells tails (all_of tail_at fleet) → AreFrom (spots_at stands cell) from s1 → AreFrom (spots_at tails cell) from s2 → (p : Passing) → (HasPassing s1 p ⊎ HasPassing s2 p) ↔ Passes fleet cell from p
passing_exact stands tails s1 s2 fleet cell from has_s has_r b1 b2 p = (
  (λ h. elim h [
    | inl (s, within, is) ↦
        let inside = (b1 s).0 within in
        let stood = has_s.0 cell s inside.0 in
        subst (λ q. Passes fleet cell from q) is (record {
          not_before = inside.1;
          not_after = stand_early (fleet s.step.agent) s.time cell stood;
          there = stands_is s.time cell (fleet s.step.agent) stood;
        })
    | inr (s, within, is) ↦
        let inside = (b2 s).0 within in
        let rested = has_r.0 cell s inside.0 in
        subst (λ q. Passes fleet cell from q) is (record {
          not_before = inside.1;
          not_after = omega (arith, tail_last (fleet s.step.agent) s.time cell rested);
          there = rests_is s.time cell s.time (omega arith) (fleet s.step.agent) rested;
        })
  ]),
  (λ h. elim (either_is p.time cell (fleet p.agent) h.there) [
    | inl stood ↦
        let v = has_s.1 cell p.time p.agent stood in
        let s = spot p.time p.agent v.0 in
        inl (s, (b1 s).1 (v.1, h.not_before), refl)
    | inr w ↦
        let last : w.0 ≡ last_of fleet p.agent = tail_last (fleet p.agent) w.0 cell w.2 in
        let now : w.0 ≡ p.time = omega (arith, last, w.1, h.not_after) in
        let rested : all_of tail_at fleet p.agent p.time ≡ Some cell = subst (λ q. all_of tail_at fleet p.agent q ≡ Some cell) now w.2 in
        let v = has_r.1 cell p.time p.agent rested in
        let s = spot p.time p.agent v.0 in
        inr (s, (b2 s).1 (v.1, h.not_before), refl)
  ]),
)

-- ---- what the end of an agent's route says
pub unended : (o : Option Route) → IsEndOf None o → o ≡ None
unended o is = grind arith

some_within : (path : List Point) (i : ℕ) → i < length path → IsSome (slice_get path i)
some_within path i h = grind (arith, slice_get_cases path i)

-- whether an agent with that end has a position
pub has_place : (end : End) (o : Option Route) (t : ℕ) → IsEndOf (Some end) o → (end.leaves ≡ false) ⊎ (t ≤ end.last) → IsSome (option_and_then (λ r. position r t) o)
has_place end None t is h = absurd is
has_place end (Some r) t is h =
    let within = slice_get_within r.path (last_index r.path) end.cell is.cell in
    let some = some_within r.path (min t (last_index r.path)) (omega arith) in
    grind (arith, nat_tests, some, is.last, is.leaves)

pub no_place : (end : End) (o : Option Route) (t : ℕ) → IsEndOf (Some end) o → end.leaves ≡ true → end.last < t → IsSome (option_and_then (λ r. position r t) o) → ⊥
no_place end o t is leaves late h = grind (arith, nat_tests)

-- where an agent with that end is, by the sets
pub is_there : (stands tails : ByCell) (fleet : Fleet) (cell : Point) (agent time : ℕ) (end : End) → ShowCells stands (all_of stand_at fleet) → ShowCells tails (all_of tail_at fleet) → IsEndOf (Some end) (fleet agent) → end.last ≤ time → HasAt (spots_at tails cell) end.last agent → position_of fleet agent time ≡ Some cell
is_there stands tails fleet cell agent time end has_s has_r is late there = rests_is time cell end.last late (fleet agent) (has_r.0 cell (spot end.last agent there.0) there.1)

pub is_rest : (stands tails : ByCell) (fleet : Fleet) (cell : Point) (agent time : ℕ) (end : End) → ShowCells stands (all_of stand_at fleet) → ShowCells tails (all_of tail_at fleet) → IsEndOf (Some end) (fleet agent) → (HasAt (spots_at stands cell) time agent → ⊥) → position_of fleet agent time ≡ Some cell → (end.last ≤ time) × HasAt (spots_at tails cell) end.last agent
is_rest stands tails fleet cell agent time end has_s has_r is not_standing at = elim (either_is time cell (fleet agent) at) [
  | inl stood ↦ absurd (not_standing (has_s.1 cell time agent stood))
  | inr w ↦
      let last : w.0 ≡ end.last = grind (arith, tail_last (fleet agent) w.0 cell w.2) in
      (omega (arith, w.1, last), has_r.1 cell end.last agent (subst (λ q. all_of tail_at fleet agent q ≡ Some cell) last w.2))
]

pub is_standing : (stands : ByCell) (fleet : Fleet) (cell : Point) (agent time : ℕ) → ShowCells stands (all_of stand_at fleet) → HasAt (spots_at stands cell) time agent → position_of fleet agent time ≡ Some cell
is_standing stands fleet cell agent time has_s there = stands_is time cell (fleet agent) (has_s.0 cell (spot time agent there.0) there.1)

pub occupants_exact : (stands tails : ByCell) (fleet : Fleet) (cell : Point) (from : ℕ) → HasSpots stands (all_of leg_at fleet) → HasSpots tails (all_of rest_at fleet) → (found : Occupants) → AreFrom (spots_at stands cell) from found.stands → AreRising found.stands → AreFrom (spots_at tails cell) 0 found.tails → AreRising found.tails → AreOccupants fleet cell from found
occupants_exact stands tails fleet cell from legs rests found b1 rise1 b2 rise2 = record {
  standing = λ s within.
      let inside = (b1 s).0 within in
      let stood = has_s.0 cell s inside.0 in
      record {
        not_before = inside.1;
        there = stands_is s.time cell (fleet s.step.agent) stood;
        passes = stand_passes (fleet s.step.agent) s.time cell stood;
        goes = λ moves. (hop_of (fleet s.step.agent) s.time (hop cell s.step.to) (leg_hop (fleet s.step.agent) s.time cell s.step.to moves ((legs cell s).0 inside.0))).1;
      };
  resting = λ s within. record { there = λ t h. rests_is t cell s.time h (fleet s.step.agent) (has_r.0 cell s ((b2 s).0 within).0) };
  all = λ a t h at. elim (either_is t cell (fleet a) at) [
    | inl stood ↦ let v = has_s.1 cell t a stood in inl (v.0, (b1 (spot t a v.0)).1 (v.1, h))
    | inr w ↦ let v = has_r.1 cell w.0 a w.2 in inr (spot w.0 a v.0, (b2 (spot w.0 a v.0)).1 (v.1, omega arith), refl, w.1)
  ];
  stands_rise = rise1;
  tails_rise = rise2;
} where
  has_s : ShowCells stands (all_of stand_at fleet)
  has_s = stands_show stands fleet legs

  has_r : ShowCells tails (all_of tail_at fleet)
  has_r = tails_show tails fleet rests
