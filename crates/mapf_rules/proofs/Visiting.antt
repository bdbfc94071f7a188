-- Visits, added agent by agent and time by time.
use Rattle.std.proofs.Common.{◌≡◌, ℕ, ◌+◌, ◌<◌, ◌≤◌, List, [], ◌∷◌, length, get_or, Some, refl, ap, subst, ◌⊎◌, inl, inr, arith}
use Rattle.std.specs.List.{slice_get, Contains}
use Rattle.std.proofs.lemmas.Bool.Decides.{nat_tests}
use Rattle.std.proofs.lemmas.Option.{same_Some, get_or_from_slice_get, slice_get_within}
use Rattle.grid_cells.specs.Grid.{Chart}
use Rattle.grid_cells.specs.Cell.{Point}
use Rattle.plan_table.specs.Path.{last_index}
use Rattle.plan_table.specs.Plans.{row_of, agents_of, IsByAgent}
use Rattle.plan_table.specs.Order.{ComesBefore}
use Rattle.plan_table.specs.declared.plans.Row.{Row}
use Rattle.plan_table.proofs.Fleets.{below_rank_more, all_agents, row_here}
use Rattle.mapf_rules.specs.Visits.{IsVisit, visit_key, AreVisits}
use Rattle.mapf_rules.specs.VisitSearch.{IsVisitIn, AddsVisits, IsListed}
use Rattle.mapf_rules.specs.declared.visits.Visit.{Visit}

pub key_before : (visit : Visit) (agent time : ℕ) → (visit.agent < agent) ⊎ ((visit.agent ≡ agent) × (visit.time < time)) → ComesBefore (visit_key visit) (agent ∷ time ∷ [])
key_before visit agent time (inl less) = grind (arith, nat_tests)
key_before visit agent time (inr (same, less)) = grind (arith, nat_tests)

-- an agent's visits before one time, then those before another
pub adds_more : (grid : Chart) (a b c : List Visit) (agent : ℕ) (path : List Point) (time : ℕ) → AddsVisits grid a b agent path 0 time → AddsVisits grid b c agent path time (time + 1) → AddsVisits grid a c agent path 0 (time + 1)
adds_more grid a b c agent path time first then = record {
  listed = then.listed;
  keeps = λ visit h. then.keeps visit (first.keeps visit h);
  has = λ visit is. grind (arith, then.keeps visit, first.has visit, then.has visit);
  only = λ visit h. grind (arith, then.only visit h, first.only visit);
}

-- the visits of the agents below a rank
pub record VisitsBelow (grid : Chart) (rows : List (ℕ × Row)) (rank : ℕ) (visits : List Visit) : Type 0 where
  pub listed : IsListed visits
  pub each : (visit : Visit) → Contains visits visit → IsVisit grid rows visit
  pub below : (visit : Visit) → Contains visits visit → (k : ℕ) (d : ℕ × Row) → rank ≤ k → k < length rows → visit.agent < (get_or rows k d).0
  pub has : (agent k : ℕ) → k < rank → slice_get (agents_of rows) k ≡ Some agent → (visit : Visit) → visit.agent ≡ agent → IsVisit grid rows visit → Contains visits visit

pub none_below : (grid : Chart) (rows : List (ℕ × Row)) → VisitsBelow grid rows 0 []
none_below grid rows = record {
  listed = λ i j d lt within. absurd (omega (arith, within));
  each = λ visit h. absurd (omega (arith, h.1));
  below = λ visit h. absurd (omega (arith, h.1));
  has = λ agent k low. absurd (omega (arith, low));
}

pub below_here : (grid : Chart) (rows : List (ℕ × Row)) (rank agent : ℕ) (row : Row) (visits : List Visit) → slice_get rows rank ≡ Some (agent, row) → VisitsBelow grid rows rank visits → (visit : Visit) → Contains visits visit → visit.agent < agent
below_here grid rows rank agent row visits at before visit h =
    subst (λ (e : ℕ × Row). visit.agent < e.0) (get_or_from_slice_get rows rank (agent, row) (agent, row) at) (before.below visit h rank (agent, row) (omega arith) (slice_get_within rows rank (agent, row) at))

module _ (grid : Chart) (rows : List (ℕ × Row)) (by_agent : IsByAgent rows) (rank agent : ℕ) (row : Row) (at : slice_get rows rank ≡ Some (agent, row)) (old new : List Visit) (adds : AddsVisits grid old new agent row.plan 0 (last_index row.plan + 1)) where
  here : (row_of rows agent ≡ Some row) × (slice_get (agents_of rows) rank ≡ Some agent)
  here = row_here rows by_agent rank agent row at

  is_visit : (visit : Visit) → IsVisitIn grid agent row.plan 0 (last_index row.plan + 1) visit → IsVisit grid rows visit
  is_visit visit is = record { row = row; live = rw is.same_agent here.0; blocked = is.blocked }

  read : (d : ℕ × Row) → (get_or rows rank d).0 ≡ agent
  read d = ap (λ (e : ℕ × Row). e.0) (get_or_from_slice_get rows rank (agent, row) d at)

  each_more : ((visit : Visit) → Contains old visit → IsVisit grid rows visit) → (visit : Visit) → Contains new visit → IsVisit grid rows visit
  each_more each visit h = elim (adds.only visit h) [ inl in_old ↦ each visit in_old | inr is ↦ is_visit visit is ]

  below_more_visits : ((visit : Visit) → Contains old visit → (k : ℕ) (d : ℕ × Row) → rank ≤ k → k < length rows → visit.agent < (get_or rows k d).0) → (visit : Visit) → Contains new visit → (k : ℕ) (d : ℕ × Row) → rank + 1 ≤ k → k < length rows → visit.agent < (get_or rows k d).0
  below_more_visits below visit h k d later inside = grind (arith, adds.only visit h, below visit, read d, by_agent rank k d)

  has_here : (visit : Visit) → visit.agent ≡ agent → IsVisit grid rows visit → Contains new visit
  has_here visit same is = grind (arith, adds.has visit, here, same_Some is.row row)

  pub visits_more : VisitsBelow grid rows rank old → VisitsBelow grid rows (rank + 1) new
  visits_more before = record {
    listed = adds.listed;
    each = each_more before.each;
    below = below_more_visits before.below;
    has = below_rank_more rows rank agent (λ (a : ℕ). (visit : Visit) → visit.agent ≡ a → IsVisit grid rows visit → Contains new visit) here.1
        (λ a k lt is visit same stands. adds.keeps visit (before.has a k lt is visit same stands)) has_here;
  }

pub visits_of_all : (grid : Chart) (rows : List (ℕ × Row)) (end : ℕ) (visits : List Visit) → length rows ≤ end → VisitsBelow grid rows end visits → AreVisits grid rows visits
visits_of_all grid rows end visits all are = record {
  ascending = are.listed;
  exact = λ visit. (are.each visit, λ is. all_agents rows end (λ a. (v : Visit) → v.agent ≡ a → IsVisit grid rows v → Contains visits v) all are.has visit.agent (rw is.live refl) visit refl is);
}
