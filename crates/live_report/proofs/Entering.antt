-- Rows of a table taken in one by one.
use Rattle.std.proofs.Common.{◌≡◌, ℕ, zero, suc, ◌+◌, List, [], ◌∷◌, ◌++◌, take, Some, None, refl, sym, ap, ◌∙◌, if◌then◌else◌, ◌==◌, inl, inr}
use Rattle.std.specs.List.{slice_get}
use Rattle.std.proofs.lemmas.Bool.Decides.{eqb_tells}
use Rattle.std.proofs.lemmas.List.{take_more}
use Rattle.std.proofs.lemmas.Option.{none-some, slice_get_within, get_or_from_slice_get}
use Rattle.plan_table.specs.Plans.{row_of, IsByAgent}
use Rattle.plan_table.specs.declared.plans.Row.{Row}
use Rattle.plan_table.proofs.Rows.{first_below, tail_by_agent}
use Rattle.live_report.specs.Prices.{with_row_in}

-- a row that no other one of its agent comes before
row_of_last : (rows : List (ℕ × Row)) (agent : ℕ) (row : Row) → row_of rows agent ≡ None → (a : ℕ) → row_of (rows ++ (agent, row) ∷ []) a ≡ (if a == agent then Some row else row_of rows a)
row_of_last [] agent row none a =
    elim (eqb_tells a agent) [
      | inl is ↦ elim (eqb_tells agent a) [
        | inl same ↦ rw is.0 (rw same.0 refl)
        | inr other ↦ absurd (other.1 (sym is.1))
      ]
      | inr apart ↦ elim (eqb_tells agent a) [
        | inl same ↦ absurd (apart.1 (sym same.1))
        | inr other ↦ rw apart.0 (rw other.0 refl)
      ]
    ]
row_of_last ((b, first) ∷ rest) agent row none a =
    elim (eqb_tells b agent) [
      | inl is ↦ absurd (none-some first (sym none ∙ rw is.0 refl))
      | inr apart ↦
          let later : row_of rest agent ≡ None = sym (rw apart.0 refl) ∙ none in
          elim (eqb_tells b a) [
            | inl here ↦ elim (eqb_tells a agent) [
              | inl same ↦ absurd (apart.1 (here.1 ∙ same.1))
              | inr other ↦ rw here.0 (rw other.0 refl)
            ]
            | inr there ↦ rw there.0 (row_of_last rest agent row later a)
          ]
    ]

-- the rows before an agent's rank have none of that agent
pub row_of_before : (rows : List (ℕ × Row)) → IsByAgent rows → (rank agent : ℕ) (row : Row) → slice_get rows rank ≡ Some (agent, row) → row_of (take rank rows) agent ≡ None
row_of_before [] by_agent rank agent row there = absurd (none-some (agent, row) there)
row_of_before (x ∷ rest) by_agent zero agent row there = refl
row_of_before (x ∷ rest) by_agent (suc rank) agent row there =
    let below = first_below x rest by_agent rank (agent, row) (slice_get_within rest rank (agent, row) there) in
    elim (eqb_tells x.0 agent) [
      | inl same ↦ absurd (below (ap (λ (e : ℕ × Row). e.0) (get_or_from_slice_get rest rank (agent, row) (agent, row) there) ∙ sym same.1))
      | inr apart ↦ rw apart.0 (row_of_before rest (tail_by_agent x rest by_agent) rank agent row there)
    ]

-- the rows up to an agent's rank, and its own
pub row_of_more : (rows : List (ℕ × Row)) → IsByAgent rows → (rank agent : ℕ) (row : Row) → slice_get rows rank ≡ Some (agent, row) → with_row_in (row_of (take rank rows)) agent (Some row) ≡ row_of (take (rank + 1) rows)
row_of_more rows by_agent rank agent row there = λ i a. sym (here a) i
  where
    more : take (rank + 1) rows ≡ take rank rows ++ (agent, row) ∷ []
    more = take_more rows rank (agent, row) (slice_get_within rows rank (agent, row) there) ∙ ap (λ (e : ℕ × Row). take rank rows ++ e ∷ []) (get_or_from_slice_get rows rank (agent, row) (agent, row) there)

    here : (a : ℕ) → row_of (take (rank + 1) rows) a ≡ (if a == agent then Some row else row_of (take rank rows) a)
    here a = ap (λ r. row_of r a) more ∙ row_of_last (take rank rows) agent row (row_of_before rows by_agent rank agent row there) a
