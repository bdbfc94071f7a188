-- The stops of one agent's route, and whom it meets there.
use Rattle.std.proofs.lemmas.Bool.Decides.{nat_tests}
use Rattle.std.proofs.Common.{◌≡◌, inl, inr, ℕ, ◌+◌, ◌≤◌, List, Some, None, Option, refl, sym, ap, subst, ◌∙◌, arith}
use Rattle.std.specs.Prelude.{IsTrue}
use Rattle.std.specs.Option.{unwrap_or}
use Rattle.grid_cells.specs.Cell.{Point}
use Rattle.plan_table.specs.Route.{Route, Fleet, position_of}
use Rattle.plan_table.proofs.Fleets.{position_sooner}
use Rattle.where_index.specs.Index.{Contents}
use Rattle.conflict_ledger.specs.Sight.{Shows, own_place, IsWhere}
use Rattle.conflict_ledger.specs.Gathering.{IsStop, HasStop, HasPlace, HasHere, HasTime, own_at}
use Rattle.conflict_ledger.specs.declared.places.Place.{Place}
use Rattle.conflict_ledger.specs.declared.places.Place.TheVariants.{Beside, Ahead, Behind}
use Rattle.conflict_ledger.specs.declared.places.Stop.{Stop}
use Rattle.mapf_rules.specs.declared.entries.Conflict.{Conflict}
use Rattle.conflict_ledger.proofs.Change.{near_of}
use Rattle.conflict_ledger.proofs.Meetings.{at_now, at_later, still_ahead}

module _ (index : Contents) (agent : ℕ) (route : Option Route) (fleet : Fleet) (shows : Shows index agent route fleet) where
  -- where the route is, there is the agent
  own_there : (time : ℕ) → position_of fleet agent time ≡ own_place route time
  own_there time = ap (λ (o : Option Route). own_place o time) shows.own

  -- one that is somewhere was somewhere one step before
  pub came_own : (past time : ℕ) (before here : Point) → past + 1 ≡ time → own_place route time ≡ Some here → before ≡ unwrap_or (own_place route past) here → IsWhere fleet agent past before here
  came_own past time before here is_next at is_before = grind (arith, own_there past, own_there (past + 1), position_sooner fleet agent past)

  -- where nothing is asked of the step before, the cell before is the stop's own
  pub still_before : (stop : Stop) → stop.past ≡ stop.time → own_place route stop.time ≡ Some stop.here → stop.before ≡ unwrap_or (own_place route stop.past) stop.here → stop.before ≡ stop.here
  still_before stop same at is_before = is_before ∙ ap (λ (o : Option Point). unwrap_or o stop.here) (subst (λ (t : ℕ). own_place route t ≡ Some stop.here) (sym same) at)

  -- so the cells of the route are a stop of the agent's
  pub stop_own : (stop : Stop) → stop.past ≤ stop.time → stop.time ≤ stop.past + 1 → own_place route stop.time ≡ Some stop.here → stop.before ≡ unwrap_or (own_place route stop.past) stop.here → stop.next ≡ unwrap_or (own_place route (stop.time + 1)) stop.here → IsStop fleet agent stop
  stop_own stop order near at is_before is_next = grind (arith, nat_tests)

  -- who is there at a stop is met in its place
  module _ (stop : Stop) (entries : List Conflict) (has : HasStop fleet agent stop entries) where
    pub stop_here : IsStop fleet agent stop → IsTrue stop.goes → HasHere fleet agent stop.time entries
    stop_here is goes Beside _ other cell apart own at = has Beside goes other apart (at ∙ ap Some (at_now fleet agent other stop.time stop.here stop.next is.goes cell own))
    stop_here is goes Ahead not other cell apart own at = absurd (not refl)
    stop_here is goes Behind _ other cell apart own at = has Behind goes other apart (at ∙ ap Some (at_now fleet agent other stop.time stop.here stop.next is.goes cell own))

    pub stop_ahead : IsWhere fleet agent stop.past stop.before stop.here → HasPlace fleet agent stop.past Ahead entries
    stop_ahead came other cell apart own there entry is at two _ met =
        has Ahead (λ still. still_ahead fleet agent other stop.past stop.before stop.here came still entry is at met) other apart (there ∙ ap Some (at_later fleet agent other stop.past stop.before stop.here came cell own)) entry is at two apart met

  -- an agent that is nowhere meets nobody
  pub nowhere_place : (place : Place) (time : ℕ) (entries : List Conflict) → own_place route (own_at place time) ≡ None → HasPlace fleet agent time place entries
  nowhere_place place time entries none other cell apart there = let wrong : None ≡ Some cell = sym none ∙ sym (own_there (own_at place time)) ∙ there in absurd (cc)

  pub nowhere_here : (time : ℕ) (entries : List Conflict) → own_place route time ≡ None → HasHere fleet agent time entries
  nowhere_here time entries none Beside _ = nowhere_place Beside time entries none
  nowhere_here time entries none Ahead not = absurd (not refl)
  nowhere_here time entries none Behind _ = nowhere_place Behind time entries none

  -- what those whom the agent meets in the three places give are all its entries then
  pub step_has : (time : ℕ) (entries : List Conflict) → HasPlace fleet agent time Ahead entries → HasHere fleet agent time entries → HasTime fleet agent time entries
  step_has time entries ahead here entry is at =
      let near = near_of fleet agent entry is.pair is.names is.stands in
      elim near.3.1 [
        | inl w ↦ here Beside (λ e. cc) near.0 near.3.0 near.2 (rw (← at) w.0) (rw (← at) w.1) entry is at near.1 near.2 w.2
        | inr more ↦ elim more [
          | inl w ↦ ahead near.0 near.3.0 near.2 (rw (← at) w.0) (rw (← at) w.1) entry is at near.1 near.2 w.2
          | inr w ↦ here Behind (λ e. cc) near.0 near.3.0 near.2 (rw (← at) w.0) (rw (← at) w.1) entry is at near.1 near.2 w.2
        ]
      ]
