-- Whom an index shows in a cell, and in which place the agent meets them.
use Rattle.std.proofs.lemmas.Bool.Decides.{nat_tests}
use Rattle.std.proofs.Common.{◌≡◌, ◌≢◌, inl, inr, ℕ, ◌+◌, ◌<◌, ◌≤◌, Bool, true, false, List, Contains, Some, Option, refl, subst, arith}
use Rattle.std.specs.Prelude.{IsTrue}
use Rattle.grid_cells.specs.Cell.{Point}
use Rattle.plan_table.specs.Route.{Route, Fleet, position_of}
use Rattle.where_index.specs.Index.{Contents}
use Rattle.where_index.specs.Spots.{spot}
use Rattle.where_index.specs.Asked.{StandsIn, RestsIn, IsOccupant}
use Rattle.where_index.specs.declared.spot_sets.Spot.{Spot}
use Rattle.mapf_rules.specs.Finding.{KeepsAll}
use Rattle.mapf_rules.specs.declared.entries.Conflict.{Conflict}
use Rattle.conflict_ledger.specs.Sight.{Shows}
use Rattle.conflict_ledger.specs.Gathering.{AreShowing, IsShown, HasMet, HasSeen, HasSeenSpots, HasStop, IsNear, Tells, seen_at, step_of}
use Rattle.conflict_ledger.specs.declared.places.Place.{Place}
use Rattle.conflict_ledger.specs.declared.places.Place.TheVariants.{Beside, Ahead, Behind}
use Rattle.conflict_ledger.specs.declared.places.Stop.{Stop}
use Rattle.conflict_ledger.proofs.Late.{base_there, fleet_there}

-- one that is in the cell as the step begins, or as it ends, is beside one there, or behind
pub near_here : (place : Place) (fleet : Fleet) (lasting : Bool) (s : Spot) (time : ℕ) (here next : Point) → place ≢ Ahead → Tells fleet here lasting s (seen_at place time) → IsNear place fleet lasting s time here next
near_here Beside fleet lasting s time here next not tells = tells
near_here Ahead fleet lasting s time here next not tells = absurd (not refl)
near_here Behind fleet lasting s time here next not tells = tells

-- what the spot shows in each place is all that it shows
module _ (fleet : Fleet) (agent : ℕ) (stop : Stop) (lasting : Bool) (s : Spot) (mid entries : List Conflict) where
  pub seen_all : (stop.before ≢ stop.here → IsShown lasting s stop.past → HasMet fleet agent stop.past Ahead s.step.agent mid) → KeepsAll mid entries
      → (IsTrue stop.goes → IsShown lasting s stop.time → HasMet fleet agent stop.time Beside s.step.agent entries) → (IsTrue stop.goes → IsShown lasting s (stop.time + 1) → HasMet fleet agent stop.time Behind s.step.agent entries) → HasSeen fleet agent stop lasting entries s
  seen_all ahead keeps beside behind Beside of is = beside of is
  seen_all ahead keeps beside behind Ahead of is = λ entry own at two apart met. keeps entry (ahead of is entry own at two apart met)
  seen_all ahead keeps beside behind Behind of is = behind of is

shown_by : (lasting : Bool) (s : Spot) (time : ℕ) → IsShown lasting s time → s.time ≤ time
shown_by true s time is = is
shown_by false s time is = omega (arith, is)

last_seen : (stop : Stop) (place : Place) → stop.past ≤ stop.time → seen_at place (step_of stop place) ≤ stop.time + 1
last_seen stop Beside order = omega arith
last_seen stop Ahead order = omega (arith, order)
last_seen stop Behind order = omega arith

-- a spot from after the stop shows nothing there
pub too_late : (fleet : Fleet) (agent : ℕ) (stop : Stop) (lasting : Bool) (s : Spot) (entries : List Conflict) → stop.past ≤ stop.time → stop.time + 1 < s.time → HasSeen fleet agent stop lasting entries s
too_late fleet agent stop lasting s entries order late place of shown = absurd (omega (arith, late, shown_by lasting s (seen_at place (step_of stop place)) shown, last_seen stop place order))

module _ (index : Contents) (agent : ℕ) (route : Option Route) (fleet : Fleet) (shows : Shows index agent route fleet) where
  pub stands_show : (cell : Point) (from : ℕ) (stands : List Spot) → ((s : Spot) → Contains stands s → StandsIn shows.base cell from s) → AreShowing fleet agent cell false stands
  stands_show cell from stands all s h apart time is = grind (arith, nat_tests)

  pub tails_show : (cell : Point) (tails : List Spot) → ((s : Spot) → Contains tails s → RestsIn shows.base cell s) → AreShowing fleet agent cell true tails
  tails_show cell tails all s h apart time is =
      let rests = λ (t : ℕ) (le : s.time ≤ t). fleet_there index agent route fleet shows s.step.agent t cell apart ((all s h).there t le) in
      record { there = rests time is; stays = λ _. rests (time + 1) (omega arith); passes = λ e. absurd (cc); goes = λ e. absurd (cc) }

  -- what was offered of all whom both lists show has the entries with each who is at the stop
  module _ (stop : Stop) (stands tails : List Spot) (mid entries : List Conflict) (order : stop.past ≤ stop.time) (stood : HasSeenSpots fleet agent stop false stands mid) (keeps : KeepsAll mid entries) (rested : HasSeenSpots fleet agent stop true tails entries) where
    from_past : (place : Place) → stop.past ≤ seen_at place (step_of stop place)
    from_past Beside = order
    from_past Ahead = omega arith
    from_past Behind = omega (arith, order)

    pub stop_has : ((a time : ℕ) → stop.past ≤ time → position_of shows.base a time ≡ Some stop.here → IsOccupant stop.here time a stands tails) → HasStop fleet agent stop entries
    stop_has all place of other apart there =
        let seen : ℕ = seen_at place (step_of stop place) in
        elim (all other seen (from_past place) (base_there index agent route fleet shows other seen stop.here apart there)) [
          | inl h ↦ λ entry own at two _ met. keeps entry (stood (spot seen other h.0) h.1 place of refl entry own at two apart met)
          | inr (s, h, who, le) ↦ subst (λ (a : ℕ). HasMet fleet agent (step_of stop place) place a entries) who (rested s h place of le)
        ]
