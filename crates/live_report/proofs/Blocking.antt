-- Whether an agent has a blocked visit, by the first place at which it could stand in the list.
use Rattle.std.proofs.Common.{◌≡◌, ℕ, ◌+◌, ◌<◌, ◌≤◌, Bool, true, false, List, length, get_or, Some, refl, sym, ap, subst, ◌∙◌, inl, inr, arith}
use Rattle.std.specs.Prelude.{◌↔◌, IsTrue, not}
use Rattle.std.specs.List.{slice_get, Contains}
use Rattle.std.proofs.lemmas.Bool.{cases_lt, false≢true}
use Rattle.std.proofs.lemmas.Bool.Decides.{nat_tests}
use Rattle.std.proofs.lemmas.Option.{same_Some, slice_get_within, slice_get-get_or, get_or_from_slice_get, gets}
use Rattle.std.proofs.lemmas.Grind.{common_steps}
use Rattle.grid_cells.specs.Grid.{Chart}
use Rattle.plan_table.specs.Plans.{row_of, IsByAgent}
use Rattle.plan_table.specs.Order.{ComesBefore}
use Rattle.plan_table.specs.declared.plans.Row.{Row}
use Rattle.mapf_rules.specs.Visits.{IsBlocked, IsUnblocked, AreVisits, visit_key}
use Rattle.mapf_rules.specs.declared.visits.Visit.{Visit}

-- the first numbers of keys in order are in order
key_order : (a b : Visit) → ComesBefore (visit_key a) (visit_key b) → a.agent ≤ b.agent
key_order a b before = grind (arith, nat_tests, common_steps, gets)

-- the visit at the place is the agent's
abbrev pub IsOf : List Visit → ℕ → ℕ → Type 0
IsOf visits place agent = (visit : Visit) × (slice_get visits place ≡ Some visit) × (visit.agent ≡ agent)

module _ (grid : Chart) (rows : List (ℕ × Row)) (visits : List Visit) (are : AreVisits grid rows visits) (agent : ℕ) (row : Row) (live : row_of rows agent ≡ Some row) where
  pub no_visit : IsUnblocked grid row.plan → (visit : Visit) → Contains visits visit → visit.agent ≡ agent → ⊥
  no_visit unblocked visit has same =
      let is = (are.exact visit).0 has in
      let rows_same : is.row ≡ row = same_Some is.row row (sym is.live ∙ ap (row_of rows) same ∙ live) in
      unblocked visit.time visit.cell (subst (λ (r : Row). IsBlocked grid r.plan visit.time visit.cell) rows_same is.blocked)

  module _ (place : ℕ) (before : (k : ℕ) (d : Visit) → k < place → (get_or visits k d).agent < agent) (there : (d : Visit) → place < length visits → agent ≤ (get_or visits place d).agent) where
    -- a visit of the agent stands at the place or after one of it there
    visit_there : (visit : Visit) → Contains visits visit → visit.agent ≡ agent → IsOf visits place agent
    visit_there visit (k, within, is) same =
        elim (cases_lt k place) [
          | inl early ↦ absurd (omega (arith, before k visit early, ap (λ (v : Visit). v.agent) is))
          | inr late ↦
              let inside : place < length visits = omega arith in
              (get_or visits place visit, slice_get-get_or visits place visit inside, first visit k within is same late inside)
        ]
      where
        first : (visit : Visit) (k : ℕ) → k < length visits → get_or visits k visit ≡ visit → visit.agent ≡ agent → place ≤ k → (inside : place < length visits) → (get_or visits place visit).agent ≡ agent
        first visit k within is same late inside =
            elim (cases_lt place k) [
              | inl less ↦
                  let order : (get_or visits place visit).agent ≤ (get_or visits k visit).agent = key_order (get_or visits place visit) (get_or visits k visit) (are.ascending place k visit less within) in
                  omega (arith, order, there visit inside, ap (λ (v : Visit). v.agent) is)
              | inr no_less ↦
                  let here : place ≡ k = omega arith in
                  ap (λ (j : ℕ). (get_or visits j visit).agent) here ∙ ap (λ (v : Visit). v.agent) is ∙ same
            ]

    -- so it has none exactly where that visit isn't its own
    pub unblocked_where : (own : Bool) → (IsTrue own ↔ IsOf visits place agent) → IsTrue (not own) ↔ IsUnblocked grid row.plan
    unblocked_where true means = (
      (λ wrong. absurd (false≢true wrong)),
      (λ unblocked. let of = means.0 refl in
          absurd (no_visit unblocked of.0 (place, slice_get_within visits place of.0 of.1, get_or_from_slice_get visits place of.0 of.0 of.1) of.2)),
    )
    unblocked_where false means = (
      (λ _ time cell blocked.
          let visit : Visit = record { agent = agent; time = time; cell = cell } in
          false≢true (means.1 (visit_there visit ((are.exact visit).1 (record { row = row; live = live; blocked = blocked })) refl))),
      (λ _. refl),
    )

-- the visits before one place are of agents before the one at each rank from one on
abbrev pub Passed : List (ℕ × Row) → List Visit → ℕ → ℕ → Type 0
Passed rows visits next rank = (k j : ℕ) (d : Visit) (e : ℕ × Row) → k < next → rank ≤ j → j < length rows → (get_or visits k d).agent < (get_or rows j e).0

module _ (rows : List (ℕ × Row)) (visits : List Visit) (by_agent : IsByAgent rows) (rank agent : ℕ) (row : Row) (at : slice_get rows rank ≡ Some (agent, row)) (old new : ℕ) (passed : Passed rows visits old rank) (skipped : (k : ℕ) (d : Visit) → old ≤ k → k < new → (get_or visits k d).agent < agent) where
  within : rank < length rows
  within = slice_get_within rows rank (agent, row) at

  read : (e : ℕ × Row) → (get_or rows rank e).0 ≡ agent
  read e = ap (λ (entry : ℕ × Row). entry.0) (get_or_from_slice_get rows rank (agent, row) e at)

  pub before_agent : (k : ℕ) (d : Visit) → k < new → (get_or visits k d).agent < agent
  before_agent k d early = grind (arith, nat_tests, common_steps, gets)

  pub passed_more : Passed rows visits new (rank + 1)
  passed_more k j d e early later inside = omega (arith, before_agent k d early, read e, by_agent rank j e (omega arith) inside)
