-- Parts joined rank by rank.
use Rattle.std.proofs.Common.{◌≡◌, ℕ, ◌+◌, ◌-◌, ◌*◌, ◌/◌, ◌<◌, ◌≤◌, List, [], ◌∷◌, ◌++◌, length, get_or, drop, slice_range, Some, refl, inl, inr, arith}
use mathlib.Core.Logic.{◌↔◌}
use Rattle.std.specs.List.{Contains, slice_get}
use Rattle.std.proofs.Math.Seq.{take-add}
use Rattle.std.proofs.Math.Nat.{div-mul-le_self, mul-div_cancel_left}
use Rattle.std.proofs.lemmas.Nat.{le-div}
use Rattle.std.proofs.lemmas.Bool.Decides.{nat_tests}
use Rattle.std.proofs.lemmas.Option.{get_or_from_slice_get, slice_get_within}
use Rattle.std.proofs.lemmas.List.{drop-drop}
use Rattle.std.proofs.lemmas.List.Elements.{Contains-append_left, Contains-append_right, Contains-append_cases, Contains-get_or}
use Rattle.grid_cells.specs.Grid.{Chart}
use Rattle.plan_table.specs.Order.{ComesBefore, ListsAll, EachOf}
use Rattle.plan_table.specs.Path.{last_index}
use Rattle.plan_table.specs.Plans.{row_of, agents_of, IsByAgent}
use Rattle.plan_table.specs.declared.plans.Row.{Row}
use Rattle.plan_table.proofs.Order.{Contains-nil}
use Rattle.scene_edits.proofs.RowEdits.{AllPairs-append}
use Rattle.plan_table.proofs.Fleets.{row_at_rank, row_here, rank_of}
use Rattle.mapf_rules.specs.Visits.{IsVisit, visit_key, AreVisits}
use Rattle.mapf_rules.specs.VisitSearch.{AddsVisits}
use Rattle.mapf_rules.specs.declared.visits.Visit.{Visit}
use Rattle.desk_audit.specs.Parts.{IsRanked, IsVisitOf, edge}
use Rattle.desk_audit.proofs.Finding.{widen, ranked_or, later_rank}

-- agents rise with their ranks
pub ranks_rise : (rows : List (ℕ × Row)) → IsByAgent rows → (i j a b : ℕ) → slice_get (agents_of rows) i ≡ Some a → slice_get (agents_of rows) j ≡ Some b → i < j → a < b
ranks_rise rows by_agent i j a b at_i at_j lt =
    let left = row_at_rank rows by_agent i a at_i in
    let right = row_at_rank rows by_agent j b at_j in
    let first = get_or_from_slice_get rows i (a, left.0) (a, left.0) left.2 in
    let second = get_or_from_slice_get rows j (b, right.0) (a, left.0) right.2 in
    grind (arith, by_agent i j (a, left.0) lt, first, second, slice_get_within rows j (b, right.0) right.2)

module _ {X : Type 0} (rows : List (ℕ × Row)) (P : X → Type 0) (of : X → ℕ) (at to : ℕ) (le : at ≤ to) (xs ys : List X)
    (left : (x : X) → Contains xs x ↔ (P x × IsRanked rows 0 at (of x))) (right : (x : X) → Contains ys x ↔ (P x × IsRanked rows at to (of x))) where
  pub joined : (x : X) → Contains (xs ++ ys) x ↔ (P x × IsRanked rows 0 to (of x))
  joined x = (
    λ h. elim (Contains-append_cases xs ys x h) [
      | inl in_xs ↦ let is = (left x).0 in_xs in (is.0, widen rows 0 at to (of x) le is.1)
      | inr in_ys ↦ let is = (right x).0 in_ys in (is.0, later_rank rows 0 at to (of x) (omega arith) is.1)
    ],
    λ h. elim (ranked_or rows 0 at to (of x) h.1) [
      | inl lower ↦ Contains-append_left xs ys x ((left x).1 (h.0, lower))
      | inr higher ↦ Contains-append_right xs ys x ((right x).1 (h.0, higher))
    ],
  )

visit_before : (a b : Visit) → a.agent < b.agent → ComesBefore (visit_key a) (visit_key b)
visit_before a b lt = grind (arith, nat_tests)

pub visits_joined : (grid : Chart) (rows : List (ℕ × Row)) → IsByAgent rows → (at to : ℕ) → at ≤ to → (xs ys : List Visit) → ListsAll visit_key (IsVisitOf grid rows 0 at) xs → ListsAll visit_key (IsVisitOf grid rows at to) ys → ListsAll visit_key (IsVisitOf grid rows 0 to) (xs ++ ys)
visits_joined grid rows by_agent at to le xs ys left right = record {
  ascending = AllPairs-append (λ (a b : Visit). ComesBefore (visit_key a) (visit_key b)) xs ys left.ascending right.ascending
      (λ i d in_xs j e in_ys.
      let x = get_or xs i d in
      let y = get_or ys j e in
      let lower = ((left.exact x).0 (Contains-get_or xs i d in_xs)).1 in
      let higher = ((right.exact y).0 (Contains-get_or ys j e in_ys)).1 in
      visit_before x y (ranks_rise rows by_agent lower.rank higher.rank x.agent y.agent lower.at higher.at (omega (arith, lower.early, higher.late))));
  exact = joined rows (IsVisit grid rows) (λ (v : Visit). v.agent) at to le xs ys left.exact right.exact;
}

-- the visits of the agent at a rank, after those of the agents before it
pub visits_below : (grid : Chart) (rows : List (ℕ × Row)) → IsByAgent rows → (from rank agent : ℕ) (visits : List Visit) → slice_get (agents_of rows) rank ≡ Some agent → ListsAll visit_key (IsVisitOf grid rows from rank) visits → (visit : Visit) → Contains visits visit → visit.agent < agent
visits_below grid rows by_agent from rank agent visits at lists visit h =
    let is = ((lists.exact visit).0 h).1 in
    ranks_rise rows by_agent is.rank rank visit.agent agent is.at at is.early

module _ (grid : Chart) (rows : List (ℕ × Row)) (by_agent : IsByAgent rows) (from rank agent : ℕ) (row : Row) (le : from ≤ rank) (at : slice_get rows rank ≡ Some (agent, row)) (old new : List Visit)
    (adds : AddsVisits grid old new agent row.plan 0 (last_index row.plan + 1)) (lists : ListsAll visit_key (IsVisitOf grid rows from rank) old) where
  here : (row_of rows agent ≡ Some row) × (slice_get (agents_of rows) rank ≡ Some agent)
  here = row_here rows by_agent rank agent row at

  pub visits_added : ListsAll visit_key (IsVisitOf grid rows from (rank + 1)) new
  visits_added = record {
    ascending = adds.listed;
    exact = λ visit. (
      λ h. elim (adds.only visit h) [
        | inl in_old ↦ let is = (lists.exact visit).0 in_old in (is.0, widen rows from rank (rank + 1) visit.agent (omega arith) is.1)
        | inr is ↦ (record { row = row; live = rw is.same_agent here.0; blocked = is.blocked }, record { rank = rank; late = le; early = omega arith; at = rw is.same_agent here.1 })
      ],
      λ h. elim (ranked_or rows from rank (rank + 1) visit.agent h.1) [
        | inl lower ↦ adds.keeps visit ((lists.exact visit).1 (h.0, lower))
        | inr is ↦ adds.has visit (grind (arith, here, is, h.0))
      ],
    );
  }

pub visits_none : (grid : Chart) (rows : List (ℕ × Row)) (from : ℕ) → ListsAll visit_key (IsVisitOf grid rows from from) []
visits_none grid rows from = grind (arith, Contains-nil)

-- all ranks are every agent's
pub rank_in_all : (rows : List (ℕ × Row)) (agent : ℕ) → Rattle.std.specs.Prelude.IsSome (row_of rows agent) → IsRanked rows 0 (length rows) agent
rank_in_all rows agent live = let found = rank_of rows agent live in record { rank = found.0; late = omega arith; early = found.1; at = found.2 }

pub all_visits : (grid : Chart) (rows : List (ℕ × Row)) (visits : List Visit) → ListsAll visit_key (IsVisitOf grid rows 0 (length rows)) visits → AreVisits grid rows visits
all_visits grid rows visits lists = record {
  ascending = lists.ascending;
  exact = λ visit. (λ h. ((lists.exact visit).0 h).0, λ is. (lists.exact visit).1 (is, rank_in_all rows visit.agent (rw is.live refl)));
}

pub EachOf-append : {A B : Type 0} (R : A → B → Type 0) (xs us : List A) (ys vs : List B) → EachOf R xs ys → EachOf R us vs → EachOf R (xs ++ us) (ys ++ vs)
EachOf-append R [] us [] vs each more = more
EachOf-append R [] us (y ∷ ys) vs each more = absurd each
EachOf-append R (x ∷ xs) us [] vs each more = absurd each
EachOf-append R (x ∷ xs) us (y ∷ ys) vs each more = (each.0, EachOf-append R xs us ys vs each.1 more)

pub range_step : {X : Type 0} (xs : List X) (from at to : ℕ) → from ≤ at → at ≤ to → slice_range xs from at ++ slice_range xs at to ≡ slice_range xs from to
range_step xs from at to le le' = grind (arith, drop-drop (at - from) from xs, take-add (at - from) (to - at) (drop from xs))

pub edge-grows : (n w k : ℕ) → 0 < w → edge n w k ≤ edge n w (k + 1)
edge-grows n w k some = le-div (k * n / w) ((k + 1) * n) w some (omega (arith, div-mul-le_self (k * n) w))

pub edge-last : (n w : ℕ) → 0 < w → edge n w w ≡ n
edge-last n w some = mul-div_cancel_left n some
