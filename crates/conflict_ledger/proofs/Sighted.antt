-- What an index shows of a fleet beside one agent's track.
use Rattle.std.proofs.Common.{◌≡◌, ◌≢◌, ℕ, Some, None, Option, refl, ap, ◌∙◌, ◌⊎◌, inl, inr, ◌+◌, List, Bool, cond, sym, subst, arith, ◌<◌, true, length}
use Rattle.std.specs.Option.{option_map, unwrap_or, option_and_then}
use Rattle.grid_cells.specs.Cell.{Point, IsStep}
use Rattle.plan_table.specs.Path.{last_index, IsPath, place}
use Rattle.plan_table.specs.Route.{Route, Fleet, last_of, position, position_of, route_of}
use Rattle.where_index.specs.Index.{Contents, StandsFor, with_route}
use Rattle.where_index.specs.Ends.{EndsAt, IsEndOf}
use Rattle.conflict_ledger.specs.Sight.{Shows, own_place}
use Rattle.std.proofs.lemmas.Bool.Decides.{nat_tests}
use Rattle.std.specs.Prelude.{slice_get, min, IfSome}
use Rattle.std.proofs.lemmas.Option.{same_Some, get_or_from_slice_get}
use Rattle.std.proofs.lemmas.Bool.{eq-eqb}
use Rattle.conflict_ledger.specs.Change.{SameBut}
use Rattle.mapf_rules.proofs.Walks.{same_or_not}
use Rattle.plan_table.specs.declared.tracks.Track.{Track}
use Rattle.where_index.specs.declared.ways.Way.{Way}
use Rattle.where_index.specs.Flows.{leads}
use Rattle.where_index.specs.declared.ends.End.{End}
use Rattle.where_index.specs.Asked.{Goes}

abbrev last_in : Option Route → ℕ
last_in o = unwrap_or (option_map (λ (route : Route). last_index route.path) o) 0

last_at : (o : Option Route) (end : ℕ × Point) → EndsAt o (Some end) → end.0 ≡ last_in o
last_at None end h = absurd h
last_at (Some r) end h = h.0

last_none : (o : Option Route) → EndsAt o None → 0 ≡ last_in o
last_none None h = refl
last_none (Some r) h = absurd h

module _ (index : Contents) (agent : ℕ) (route : Option Route) (fleet : Fleet) (shows : Shows index agent route fleet) (a : ℕ) (apart : a ≢ agent) where
  pub last_shown : (end : ℕ × Point) → EndsAt (shows.base a) (Some end) → end.0 ≡ last_of fleet a
  last_shown end ends = last_at (shows.base a) end ends ∙ ap last_in (shows.others a apart)

  pub last_not_shown : EndsAt (shows.base a) None → 0 ≡ last_of fleet a
  last_not_shown ends = last_none (shows.base a) ends ∙ ap last_in (shows.others a apart)

-- who moves in the fleet moves in the index, or on the agent's own track
pub goes_shown : (index : Contents) (agent : ℕ) (route : Option Route) (fleet : Fleet) (shows : Shows index agent route fleet) (time : ℕ) (way : Way) → Goes fleet time way
    → Goes shows.base time way ⊎ ((from : Point) × (to : Point) × (own_place route time ≡ Some from) × (own_place route (time + 1) ≡ Some to) × (leads way from to ≡ true))
goes_shown index agent route fleet shows time way g = grind (arith, nat_tests)

-- agents on paths go by steps
cells_step : (path : List Point) (i j : ℕ) (p q : Point) → IsPath path → (j ≡ i) ⊎ (j ≡ i + 1) → j < length path → slice_get path i ≡ Some p → slice_get path j ≡ Some q → IsStep p q
cells_step path i j p q is near within a b = grind (arith, nat_tests, near, is.walkable.steps i p, get_or_from_slice_get path i p p a, get_or_from_slice_get path j q p b)

path_steps : (r : Route) (time : ℕ) (p q : Point) → IsPath r.path → position r time ≡ Some p → position r (time + 1) ≡ Some q → IsStep p q
path_steps r time p q is a b = cells_step r.path (min time (last_index r.path)) (min (time + 1) (last_index r.path)) p q is near (omega (arith, is.walkable.some_cell)) (there r.path time p a) (there r.path (time + 1) q b)
  where
    near : (min (time + 1) (last_index r.path) ≡ min time (last_index r.path)) ⊎ (min (time + 1) (last_index r.path) ≡ min time (last_index r.path) + 1)
    near = grind arith

    there : (path : List Point) (t : ℕ) (c : Point) → position r t ≡ Some c → place r.path t ≡ Some c
    there path t c at = grind (arith, nat_tests)

ended_path : (end : Option End) (r : Route) → IsEndOf end (Some r) → IsPath r.path
ended_path None r is = absurd is
ended_path (Some end) r is = is.path

-- so do the agents that a sight shows
pub shown_steps : (index : Contents) (agent : ℕ) (track : Option Track) (fleet : Fleet) (shows : Shows index agent (option_map route_of track) fleet) → IfSome track (λ t. IsPath t.plan.now) → (time a : ℕ) (p q : Point) → position_of fleet a time ≡ Some p → position_of fleet a (time + 1) ≡ Some q → IsStep p q
shown_steps index agent track fleet shows own time a p q from to = by_route (fleet a) refl (same_or_not a agent)
  where
    is_path : (t : Option Track) → IfSome t (λ t. IsPath t.plan.now) → (r : Route) → option_map route_of t ≡ Some r → IsPath r.path
    is_path None h r e = cc
    is_path (Some t) h r e = subst (λ (q : Route). IsPath q.path) (same_Some _ _ e) h

    by_route : (o : Option Route) → fleet a ≡ o → (a ≡ agent) ⊎ (a ≢ agent) → IsStep p q
    by_route None e w = let wrong : None ≡ Some p = sym (ap (λ (o : Option Route). option_and_then (λ r. position r time) o) e) ∙ from in cc
    by_route (Some r) e w =
        let here : position r time ≡ Some p = sym (ap (λ (o : Option Route). option_and_then (λ r. position r time) o) e) ∙ from in
        let there : position r (time + 1) ≡ Some q = sym (ap (λ (o : Option Route). option_and_then (λ r. position r (time + 1)) o) e) ∙ to in
        path_steps r time p q (elim w [
          | inl is ↦ is_path track own r (sym shows.own ∙ ap fleet (sym is) ∙ e)
          | inr apart ↦ ended_path _ r (subst (IsEndOf _) (shows.others a apart ∙ e) (shows.stands.ends a))
        ]) here there

-- ---- a fleet with another route for one agent
pub with_own : (fleet : Fleet) (agent : ℕ) (r : Option Route) → with_route fleet agent r agent ≡ r
with_own fleet agent r = ap (λ (b : Bool). cond b r (fleet agent)) (eq-eqb agent agent refl)

pub with_other : (fleet : Fleet) (agent : ℕ) (r : Option Route) (a : ℕ) → a ≢ agent → fleet a ≡ with_route fleet agent r a
with_other fleet agent r a apart = grind (arith, nat_tests)

pub with_shows : (index : Contents) (fleet : Fleet) (agent : ℕ) (r : Option Route) → StandsFor index fleet → Shows index agent r (with_route fleet agent r)
with_shows index fleet agent r stands = record { base = fleet; stands = stands; others = with_other fleet agent r; own = with_own fleet agent r }

pub itself_shows : (index : Contents) (fleet : Fleet) (agent : ℕ) (r : Option Route) → StandsFor index fleet → fleet agent ≡ r → Shows index agent r fleet
itself_shows index fleet agent r stands own = record { base = fleet; stands = stands; others = λ a apart. refl; own = own }

-- the last index of a route that is shown
pub own_last : (index : Contents) (agent : ℕ) (route : Route) (fleet : Fleet) → Shows index agent (Some route) fleet → last_index route.path ≡ last_of fleet agent
own_last index agent route fleet shows = sym (ap (λ (o : Option Route). unwrap_or (option_map (λ (r : Route). last_index r.path) o) 0) shows.own)

-- the fleet without the agent
pub hidden : (index : Contents) (agent : ℕ) (route : Option Route) (fleet : Fleet) → Shows index agent route fleet → Shows index agent None (with_route fleet agent None)
hidden index agent route fleet shows = record { base = shows.base; stands = shows.stands; others = λ a apart. shows.others a apart ∙ with_other fleet agent None a apart; own = with_own fleet agent None }

pub but_hidden : (fleet : Fleet) (agent : ℕ) → SameBut (with_route fleet agent None) fleet agent
but_hidden fleet agent a apart = sym (with_other fleet agent None a apart)
