-- The costs of rows, and what their kept sums say of them.
use Rattle.std.proofs.Common.{◌≡◌, ◌⊎◌, inl, inr, ℕ, zero, suc, ◌+◌, ◌≤◌, cond, List, [], ◌∷◌, get_or, Some, None, Option, Contains, refl, sym, ap, ◌∙◌, subst, arith}
use Rattle.std.specs.Prelude.{IsSome, All, map, sum, count_by, fold, max, unwrap_or, slice_get}
use Rattle.std.specs.Option.{is_none}
use Rattle.std.proofs.lemmas.Bool.Decides.{nat_tests}
use Rattle.std.proofs.lemmas.Option.{same_Some, slice_get-get_or, slice_get_within, gets}
use Rattle.std.proofs.lemmas.List.{get_or-map, length-map}
use Rattle.std.proofs.lemmas.List.Elements.{All-cons, All-head, All-tail}
use Rattle.std.proofs.lemmas.List.Sums.{sum_by-cons, sum-map}
use Rattle.plan_table.proofs.Order.{Contains-cons_cases, Contains-cons_head, Contains-cons_tail, Contains-nil}
use Rattle.plan_table.proofs.Fleets.{rank_of, row_at_rank, row_here}
use Rattle.plan_table.specs.Path.{last_index, place, IsPath}
use Rattle.plan_table.specs.Plans.{IsByAgent}
use Rattle.plan_table.specs.declared.plans.Row.{Row}
use Rattle.mapf_rules.specs.Costs.{IsCost, AreCosts, IsSumOf, IsGreatestOf, IsSumOfCosts, IsMakespan}
use Rattle.cost_ledger.specs.Kept.{Keeps, last_of_row, ends_elsewhere, sum_of_rows, AreRests, rest}
use Rattle.cost_ledger.proofs.Keeping.{all_paths}
use Rattle.cost_ledger.specs.declared.rests.Rest.{Rest}
use Rattle.mapf_rules.proofs.Settling.{settles, settle_once}

-- a number, given where the other one is 0
abbrev given : ℕ → ℕ → Option ℕ
given zero last = Some last
given (suc n) last = None

-- the cost of a row
abbrev cost_of : Row → Option ℕ
cost_of row = given (ends_elsewhere row) (last_of_row row)

place_last : (row : Row) → IsPath row.plan → place row.plan (last_index row.plan) ≡ Some (get_or row.plan (last_index row.plan) row.goal)
place_last row path = grind (arith, slice_get-get_or, path.walkable.some_cell)

pub is_cost : (row : Row) → IsPath row.plan → IsCost row (cost_of row)
is_cost row path = grind (arith, nat_tests, settles row.plan path, place_last row path, settle_once)

abbrev pub costs_of : List (ℕ × Row) → List (Option ℕ)
costs_of rows = map (λ entry. cost_of entry.1) rows

pub are_costs : (rows : List (ℕ × Row)) → All (λ entry. IsPath entry.1.plan) rows → AreCosts rows (costs_of rows)
are_costs [] paths = tt
are_costs (x ∷ rows) paths = (is_cost x.1 (All-head (λ (entry : ℕ × Row). IsPath entry.1.plan) x rows paths), are_costs rows (All-tail (λ (entry : ℕ × Row). IsPath entry.1.plan) x rows paths))

first_of : (number : Row → ℕ) (x : ℕ × Row) (rows : List (ℕ × Row)) → sum_of_rows number (x ∷ rows) ≡ number x.1 + sum_of_rows number rows
first_of number x rows = sum_by-cons (λ (entry : ℕ × Row). number entry.1) x rows

-- where each row's path ends at its goal, each cost is given
pub all_given : (rows : List (ℕ × Row)) → sum_of_rows ends_elsewhere rows ≡ 0 → map (λ n. unwrap_or n 0) (costs_of rows) ≡ map (λ entry. last_of_row entry.1) rows
all_given [] none = refl
all_given (x ∷ rows) none = grind (arith, first_of ends_elsewhere x rows, all_given rows)

pub each_given : (rows : List (ℕ × Row)) → sum_of_rows ends_elsewhere rows ≡ 0 → All IsSome (costs_of rows)
each_given [] none = λ k d within. absurd (omega arith)
each_given (x ∷ rows) none = grind (arith, first_of ends_elsewhere x rows, All-cons IsSome (cost_of x.1) (costs_of rows), each_given rows)

pub given_all : (rows : List (ℕ × Row)) → All IsSome (costs_of rows) → sum_of_rows ends_elsewhere rows ≡ 0
given_all [] all = refl
given_all (x ∷ rows) all =
    grind (arith, first_of, All-head IsSome (cost_of x.1) (costs_of rows) all, given_all rows (All-tail IsSome (cost_of x.1) (costs_of rows) all))

pub sum_given : (rows : List (ℕ × Row)) → sum_of_rows ends_elsewhere rows ≡ 0 → IsSumOf (costs_of rows) (Some (sum_of_rows last_of_row rows))
sum_given rows none = (each_given rows none, sym (ap sum (all_given rows none) ∙ sum-map (λ (entry : ℕ × Row). last_of_row entry.1) rows))

-- ---- the greatest of numbers
max_least : (xs : List ℕ) (most bound : ℕ) → most ≤ bound → ((x : ℕ) → Contains xs x → x ≤ bound) → fold max most xs ≤ bound
max_least [] most bound small all = small
max_least (x ∷ xs) most bound small all =
    let here : x ≤ bound = all x (Contains-cons_head x xs) in
    max_least xs (max most x) bound (omega arith) (λ y h. all y (Contains-cons_tail x xs y h))

max_grows : (xs : List ℕ) (most : ℕ) → most ≤ fold max most xs
max_grows [] most = omega arith
max_grows (x ∷ xs) most = omega (arith, max_grows xs (max most x))

max_covers : (xs : List ℕ) (most x : ℕ) → Contains xs x → x ≤ fold max most xs
max_covers [] most x h = absurd (Contains-nil x h)
max_covers (y ∷ xs) most x h = grind (arith, Contains-cons_cases y xs x h, max_grows xs (max most y), max_covers xs (max most y) x)

last_in : (rows : List (ℕ × Row)) (k agent : ℕ) (row : Row) → slice_get rows k ≡ Some (agent, row) → Contains (map (λ entry. last_of_row entry.1) rows) (last_of_row row)
last_in rows k agent row at =
    let within = slice_get_within rows k (agent, row) at in
    let read = get_or-map (λ (e : ℕ × Row). last_of_row e.1) rows k (agent, row) (last_of_row row) within in
    (k, grind (arith, length-map rows (λ (e : ℕ × Row). last_of_row e.1)), grind (arith, gets, read, slice_get-get_or rows k (agent, row)))

in_last : (rows : List (ℕ × Row)) (n : ℕ) → Contains (map (λ entry. last_of_row entry.1) rows) n → (k : ℕ) × (x : ℕ × Row) × (slice_get rows k ≡ Some x) × (last_of_row x.1 ≡ n)
in_last [] n h = absurd (Contains-nil n h)
in_last (x ∷ rows) n h = elim (Contains-cons_cases (last_of_row x.1) (map (λ entry. last_of_row entry.1) rows) n h) [
  | inl is ↦ (0, x, refl, is)
  | inr later ↦ let found = in_last rows n later in (suc found.0, found.1, found.2, found.3)
]

module _ (rows : List (ℕ × Row)) (rests : List Rest) (by_agent : IsByAgent rows) (are : AreRests rows rests) (greatest : ℕ) (most : (r : Rest) → Contains rests r → r.time ≤ greatest) (one : ((rests ≡ []) × (greatest ≡ 0)) ⊎ ((r : Rest) × Contains rests r × (r.time ≡ greatest))) where
  reached : (r : Rest) → Contains rests r → r.time ≤ fold max 0 (map (λ entry. last_of_row entry.1) rows)
  reached r h =
      let is = (are r).0 h in
      let place = rank_of rows r.agent (subst IsSome (sym is.1) refl) in
      let at = row_at_rank rows by_agent place.0 r.agent place.2 in
      let one_row : at.0 ≡ is.0 = same_Some at.0 is.0 (sym at.1 ∙ is.1) in
      let counts : last_of_row at.0 ≤ fold max 0 (map (λ entry. last_of_row entry.1) rows) = max_covers (map (λ entry. last_of_row entry.1) rows) 0 (last_of_row at.0) (last_in rows place.0 r.agent at.0 at.2) in
      let lasts : last_of_row at.0 ≡ last_of_row is.0 = ap last_of_row one_row in
      omega (arith, is.2)

  bounded : (x : ℕ) → Contains (map (λ entry. last_of_row entry.1) rows) x → x ≤ greatest
  bounded x h =
      let found = in_last rows x h in
      grind (arith, row_here rows by_agent found.0 found.1.0 found.1.1 found.2, most (rest x found.1.0), are (rest x found.1.0))

  pub greatest_last : greatest ≡ fold max 0 (map (λ entry. last_of_row entry.1) rows)
  greatest_last =
      let lower = max_least (map (λ entry. last_of_row entry.1) rows) 0 greatest (omega arith) bounded in
      elim one [ inl none ↦ omega arith | inr some ↦ omega (arith, reached some.0 some.1) ]

  pub greatest_given : sum_of_rows ends_elsewhere rows ≡ 0 → IsGreatestOf (costs_of rows) (Some greatest)
  greatest_given none = (each_given rows none, greatest_last ∙ sym (ap (fold max 0) (all_given rows none)))

-- how many costs aren't given
missing : (row : Row) → cond (is_none (cost_of row)) 1 0 ≡ ends_elsewhere row
missing row = grind (arith, nat_tests)

pub missing_costs : (rows : List (ℕ × Row)) → sum_of_rows ends_elsewhere rows ≡ count_by is_none (costs_of rows)
missing_costs [] = refl
missing_costs (x ∷ rows) =
    let counted = sum_by-cons (λ (o : Option ℕ). cond (is_none o) 1 0) (cost_of x.1) (costs_of rows) in
    grind (arith, first_of ends_elsewhere x rows, counted, missing x.1, missing_costs rows)

-- ---- what is told of what is kept
module _ (rows : List (ℕ × Row)) (rests : List Rest) (total elsewhere : ℕ) (keeps : Keeps rows rests total elsewhere) where
  pub kept_costs : AreCosts rows (costs_of rows)
  kept_costs = are_costs rows (all_paths rows rests total elsewhere keeps)

  pub told_sum : elsewhere ≡ 0 → IsSumOfCosts rows (Some total)
  told_sum none = (costs_of rows, kept_costs, subst (λ n. IsSumOf (costs_of rows) (Some n)) (sym keeps.total_is) (sum_given rows (sym keeps.elsewhere_is ∙ none)))

  pub told_makespan : (greatest : ℕ) → ((r : Rest) → Contains rests r → r.time ≤ greatest) → (rests ≡ []) × (greatest ≡ 0) ⊎ ((r : Rest) × Contains rests r × (r.time ≡ greatest)) → elsewhere ≡ 0 → IsMakespan rows (Some greatest)
  told_makespan greatest most one none =
      (costs_of rows, kept_costs, greatest_given rows rests keeps.by_agent keeps.rests_are greatest most one (sym keeps.elsewhere_is ∙ none))

  pub told_none : (elsewhere ≡ 0 → ⊥) → All IsSome (costs_of rows) → ⊥
  told_none some all = some (keeps.elsewhere_is ∙ given_all rows all)
