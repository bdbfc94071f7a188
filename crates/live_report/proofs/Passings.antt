-- Those who pass through a cell of an index, as visits of rows' paths to it.
use Rattle.std.proofs.Common.{◌≡◌, ℕ, ◌<◌, ◌≤◌, List, length, get_or, map, Option, Some, None, Contains, refl, sym, ap, ◌∙◌, subst, arith}
use mathlib.Core.Logic.{◌↔◌}
use Rattle.std.specs.Prelude.{option_and_then, unwrap_or}
use Rattle.std.specs.Option.{option_map}
use Rattle.std.proofs.lemmas.List.{get_or-map, length-map}
use Rattle.grid_cells.specs.Cell.{Point}
use Rattle.plan_table.specs.Path.{last_index}
use Rattle.plan_table.specs.Plans.{row_of}
use Rattle.plan_table.specs.Route.{Route, position, route_in, tracks_of}
use Rattle.plan_table.specs.declared.plans.Row.{Row}
use Rattle.plan_table.specs.declared.tracks.Mode.{Mode}
use Rattle.plan_table.proofs.Fleets.{position_on_path}
use Rattle.mapf_rules.specs.declared.visits.Visit.{Visit}
use Rattle.where_index.specs.declared.passings.Passing.{Passing}
use Rattle.where_index.specs.Asked.{Passes, ArePassing}
use Rattle.cost_ledger.specs.Through.{ComesThrough, AreThrough}
use Rattle.live_report.specs.Fleet.{visit_to}

passing_of : Visit → Passing
passing_of v = record { time = v.time; agent = v.agent }

visits_listed : (cell : Point) (passings : List Passing) (v : Visit) → Contains (map (visit_to cell) passings) v ↔ ((v.cell ≡ cell) × Contains passings (passing_of v))
unfolding passing_of
visits_listed cell passings v = (
  (λ h.
      let within : h.0 < length passings = omega (arith, h.1, length-map passings (visit_to cell)) in
      let is : visit_to cell (get_or passings h.0 (passing_of v)) ≡ v = sym (get_or-map (visit_to cell) passings h.0 (passing_of v) v within) ∙ h.2 in
      (sym (ap (λ (w : Visit). w.cell) is), (h.0, within, λ i. record { time = (is i).time; agent = (is i).agent }))),
  (λ h.
      let within : h.1.0 < length (map (visit_to cell) passings) = omega (arith, h.1.1, length-map passings (visit_to cell)) in
      (h.1.0, within, get_or-map (visit_to cell) passings h.1.0 (passing_of v) v h.1.1 ∙ (λ i. record { agent = (h.1.2 i).agent; time = (h.1.2 i).time; cell = sym h.0 i }))),
)

module _ (mode : Mode) (rows : List (ℕ × Row)) (cell : Point) where
  passes_row : (v : Visit) → v.cell ≡ cell → Passes (tracks_of mode rows) cell 0 (passing_of v) → ComesThrough rows cell v
  unfolding passing_of
  passes_row v here passes = by_row (row_of rows v.agent) refl
    where
      by_row : (o : Option Row) → row_of rows v.agent ≡ o → ComesThrough rows cell v
      by_row None e =
          let none : None ≡ Some cell = subst (λ (q : Option Row). option_and_then (λ (r : Route). position r v.time) (option_map (route_in mode) q) ≡ Some cell) e passes.there in
          cc
      by_row (Some row) e =
          let on : v.time ≤ last_index row.plan = subst (λ (q : Option Row). v.time ≤ unwrap_or (option_map (λ (r : Route). last_index r.path) (option_map (route_in mode) q)) 0) e passes.not_after in
          let there : position (route_in mode row) v.time ≡ Some cell = subst (λ (q : Option Row). option_and_then (λ (r : Route). position r v.time) (option_map (route_in mode) q) ≡ Some cell) e passes.there in
          record { here = here; row = row; live = e; on_path = on; there = sym (position_on_path (route_in mode row) v.time on) ∙ there }

  row_passes : (v : Visit) → ComesThrough rows cell v → Passes (tracks_of mode rows) cell 0 (passing_of v)
  unfolding passing_of
  row_passes v is = record { not_before = omega arith; not_after = rw is.live is.on_path; there = rw is.live (position_on_path (route_in mode is.row) v.time is.on_path ∙ is.there) }

  pub visits_through : (passings : List Passing) → ArePassing (tracks_of mode rows) cell 0 passings → AreThrough rows cell (map (visit_to cell) passings)
  visits_through passings are v =
      let listed = visits_listed cell passings v in (
        (λ h. let at = listed.0 h in passes_row v at.0 ((are.exact (passing_of v)).0 at.1)),
        (λ is. listed.1 (is.here, (are.exact (passing_of v)).1 (row_passes v is))),
      )
