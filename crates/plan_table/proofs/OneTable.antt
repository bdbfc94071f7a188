-- Tables in order with the same row for every agent are equal.
use Rattle.std.proofs.Common.{◌≡◌, ◌≢◌, ℕ, suc, ◌<◌, List, [], ◌∷◌, length, Some, None, inl, inr, refl, sym, ap, subst, ◌∙◌, arith}
use Rattle.std.proofs.lemmas.Bool.{cases_order}
use Rattle.std.proofs.lemmas.Bool.Decides.{nat_tests, eqb_tells}
use Rattle.std.proofs.lemmas.Option.{same_Some}
use Rattle.plan_table.specs.Plans.{IsByAgent, row_of}
use Rattle.plan_table.specs.Laws.{OneTable}
use Rattle.plan_table.proofs.Rows.{NoneBefore, row_of_absent, first_below, tail_by_agent}
use Rattle.plan_table.specs.declared.plans.Row.{Row}

row_of-head : (a : ℕ) (row : Row) (rows : List (ℕ × Row)) → row_of ((a, row) ∷ rows) a ≡ Some row
row_of-head a row rows = grind (arith, nat_tests)

row_of-later : (a : ℕ) (row : Row) (rows : List (ℕ × Row)) (q : ℕ) → a ≢ q → row_of ((a, row) ∷ rows) q ≡ row_of rows q
row_of-later a row rows q differs = grind (arith, nat_tests)

-- an agent before the first one has no row
row_of-before : (x : ℕ × Row) (rows : List (ℕ × Row)) (agent : ℕ) → IsByAgent (x ∷ rows) → agent < x.0 → row_of (x ∷ rows) agent ≡ None
row_of-before x rows agent by_agent less =
    row_of-later x.0 x.1 rows agent (λ same. omega arith)
    ∙ row_of_absent rows agent (λ k d within same. omega (arith, by_agent 0 (suc k) d (omega arith) (omega arith)))

-- the same rows after equal first ones
rows_later : (a : ℕ) (row : Row) (left right : List (ℕ × Row)) → IsByAgent ((a, row) ∷ left) → IsByAgent ((a, row) ∷ right) → ((agent : ℕ) → row_of ((a, row) ∷ left) agent ≡ row_of ((a, row) ∷ right) agent) → (agent : ℕ) → row_of left agent ≡ row_of right agent
rows_later a row left right up_left up_right same agent =
    elim (eqb_tells a agent) [
      | inl is ↦
          let none : (rows : List (ℕ × Row)) → IsByAgent ((a, row) ∷ rows) → row_of rows agent ≡ None =
          λ rows up. row_of_absent rows agent (subst (λ q. NoneBefore rows q (length rows)) is.1 (first_below (a, row) rows up)) in
          none left up_left ∙ sym (none right up_right)
      | inr apart ↦ sym (row_of-later a row left agent apart.1) ∙ same agent ∙ row_of-later a row right agent apart.1
    ]

-- the first rows are the same
first_same : (a b : ℕ) (row other : Row) (left right : List (ℕ × Row)) → IsByAgent ((a, row) ∷ left) → IsByAgent ((b, other) ∷ right) → ((agent : ℕ) → row_of ((a, row) ∷ left) agent ≡ row_of ((b, other) ∷ right) agent) → (a ≡ b) × (row ≡ other)
first_same a b row other left right up_left up_right same =
    elim (cases_order a b) [
      | inl is ↦
          let there : row_of ((b, other) ∷ right) a ≡ Some other = subst (λ q. row_of ((b, other) ∷ right) q ≡ Some other) (sym is) (row_of-head b other right) in
          (is, same_Some row other (sym (row_of-head a row left) ∙ same a ∙ there))
      | inr (inl less) ↦
          let here = row_of-head a row left in
          let there = row_of-before (b, other) right a up_right less in
          let equal = same a in
          cc
      | inr (inr more) ↦
          let here = row_of-head b other right in
          let there = row_of-before (a, row) left b up_left more in
          let equal = same b in
          cc
    ]

pub one_table_holds : OneTable
one_table_holds [] [] up_left up_right same = refl
one_table_holds [] ((b, other) ∷ right) up_left up_right same = let here = row_of-head b other right in let equal = same b in cc
one_table_holds ((a, row) ∷ left) [] up_left up_right same = let here = row_of-head a row left in let equal = same a in cc
one_table_holds ((a, row) ∷ left) ((b, other) ∷ right) up_left up_right same =
    let first = first_same a b row other left right up_left up_right same in
    let entry : (a, row) ≡ (b, other) = λ i. (first.0 i, first.1 i) in
    let up : IsByAgent ((a, row) ∷ right) = subst (λ e. IsByAgent (e ∷ right)) (sym entry) up_right in
    let equal : (agent : ℕ) → row_of ((a, row) ∷ left) agent ≡ row_of ((a, row) ∷ right) agent = λ agent. same agent ∙ ap (λ (e : ℕ × Row). row_of (e ∷ right) agent) (sym entry) in
    let rest : left ≡ right = one_table_holds left right (tail_by_agent (a, row) left up_left) (tail_by_agent (a, row) right up) (rows_later a row left right up_left up equal) in
    ap (λ (e : ℕ × Row). e ∷ left) entry ∙ ap (λ (rows : List (ℕ × Row)). (b, other) ∷ rows) rest
