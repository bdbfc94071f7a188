-- Tables of rows with one row more, one less, or one changed.
use Rattle.std.proofs.Common.{◌≡◌, ℕ, suc, ◌<◌, eqb, ltb, Bool, true, false, not, if◌then◌else◌, List, [], ◌∷◌, ◌++◌, Some, None, All, inl, inr, refl, subst, arith}
use Rattle.std.specs.List.{filter, AllPairs}
use Rattle.std.proofs.lemmas.Bool.{cases_order}
use Rattle.std.proofs.lemmas.Bool.Decides.{nat_tests, eqb_tells}
use Rattle.std.proofs.lemmas.List.Kept.{AllPairs-cons, AllPairs-filter}
use Rattle.std.proofs.lemmas.List.Elements.{All-cons, All-head, All-tail, All-append}
use Rattle.plan_table.specs.Plans.{IsByAgent, row_of, ChangesRow}
use Rattle.plan_table.specs.declared.plans.Row.{Row}
use Rattle.plan_table.proofs.OneTable.{one_table_holds}
use Rattle.scene_edits.specs.Edited.{with_row, without_row, with_changed}

-- a filter by agents keeps the rows of the agents that pass
pub row_of-filter : (p : ℕ → Bool) (rows : List (ℕ × Row)) (q : ℕ) → row_of (filter (λ entry. p entry.0) rows) q ≡ (if p q then row_of rows q else None)
row_of-filter p [] q = grind (arith, nat_tests)
row_of-filter p ((a, row) ∷ rows) q =
    elim (eqb_tells a q) [
      | inl is ↦ subst (λ x. row_of (filter (λ entry. p entry.0) ((a, row) ∷ rows)) x ≡ (if p x then row_of ((a, row) ∷ rows) x else None)) is.1 (grind (arith, nat_tests, row_of-filter p rows a))
      | inr apart ↦ grind (arith, nat_tests, row_of-filter p rows q)
    ]

-- a row is looked for in the first list, and then in the second
pub row_of-append : (xs ys : List (ℕ × Row)) (q : ℕ) → row_of xs q ≡ None → row_of (xs ++ ys) q ≡ row_of ys q
row_of-append [] ys q none = refl
row_of-append ((a, row) ∷ xs) ys q none = grind (arith, nat_tests, row_of-append xs ys q)

pub row_of-append_some : (xs ys : List (ℕ × Row)) (q : ℕ) (found : Row) → row_of xs q ≡ Some found → row_of (xs ++ ys) q ≡ Some found
row_of-append_some [] ys q found some = grind arith
row_of-append_some ((a, row) ∷ xs) ys q found some = grind (arith, nat_tests, row_of-append_some xs ys q found)

pub row_of-with_row : (rows : List (ℕ × Row)) (agent : ℕ) (row : Row) (q : ℕ) → row_of (with_row rows agent row) q ≡ (if eqb agent q then Some row else row_of rows q)
row_of-with_row rows agent row q =
    let lesser = filter (λ (entry : ℕ × Row). ltb entry.0 agent) rows in
    let greater = filter (λ (entry : ℕ × Row). ltb agent entry.0) rows in
    let below = row_of-filter (λ a. ltb a agent) rows q in
    let above = row_of-filter (λ a. ltb agent a) rows q in
    let skipped = row_of-append lesser ((agent, row) ∷ greater) q in
    elim (cases_order q agent) [
      | inl is ↦ grind (arith, nat_tests, below, skipped)
      | inr (inl less) ↦
          elim (row_of rows q) as (λ o. row_of rows q ≡ o → row_of (with_row rows agent row) q ≡ (if eqb agent q then Some row else row_of rows q)) [
            | None ↦ λ none. grind (arith, nat_tests, below, above, skipped, none)
            | Some found ↦ λ some. grind (arith, nat_tests, below, some, row_of-append_some lesser ((agent, row) ∷ greater) q found)
          ] refl
      | inr (inr more) ↦ grind (arith, nat_tests, below, above, skipped)
    ]

pub row_of-without_row : (rows : List (ℕ × Row)) (agent q : ℕ) → row_of (without_row rows agent) q ≡ (if eqb agent q then None else row_of rows q)
row_of-without_row rows agent q = grind (arith, nat_tests, row_of-filter (λ a. not (eqb a agent)) rows q)

-- what holds of each element that passes
pub all-filter_pass : (p : ℕ × Row → Bool) (rows : List (ℕ × Row)) (P : ℕ × Row → Type 0) → ((e : ℕ × Row) → p e ≡ true → P e) → All P (filter p rows)
all-filter_pass p [] P tells = λ k d h. absurd (omega arith)
all-filter_pass p (x ∷ rows) P tells =
    elim (p x) as (λ b. p x ≡ b → All P (if b then x ∷ filter p rows else filter p rows)) [
      | true ↦ λ pass. All-cons P x (filter p rows) (tells x pass) (all-filter_pass p rows P tells)
      | false ↦ λ fail. all-filter_pass p rows P tells
    ] refl

pub AllPairs-append : {X : Type 0} (R : X → X → Type 0) (xs ys : List X) → AllPairs R xs → AllPairs R ys → All (λ x. All (R x) ys) xs → AllPairs R (xs ++ ys)
AllPairs-append R [] ys first second across = second
AllPairs-append R (x ∷ xs) ys first second across =
    AllPairs-cons R x (xs ++ ys)
    (All-append (R x) xs ys (λ k d h. first 0 (suc k) d (omega arith) (omega arith)) (All-head (λ x. All (R x) ys) x xs across))
    (AllPairs-append R xs ys (λ i j d lt within. first (suc i) (suc j) d (omega arith) (omega arith)) second (All-tail (λ x. All (R x) ys) x xs across))

pub by_agent-with_row : (rows : List (ℕ × Row)) (agent : ℕ) (row : Row) → IsByAgent rows → IsByAgent (with_row rows agent row)
by_agent-with_row rows agent row up =
    let R : ℕ × Row → ℕ × Row → Type 0 = λ a b. a.0 < b.0 in
    let is_less : ℕ × Row → Bool = λ entry. ltb entry.0 agent in
    let is_greater : ℕ × Row → Bool = λ entry. ltb agent entry.0 in
    let greater = all-filter_pass is_greater rows (R (agent, row)) (λ e pass. grind (arith, nat_tests, pass)) in
    AllPairs-append R (filter is_less rows) ((agent, row) ∷ filter is_greater rows) (AllPairs-filter R is_less rows up)
    (AllPairs-cons R (agent, row) (filter is_greater rows) greater (AllPairs-filter R is_greater rows up))
    (all-filter_pass is_less rows (λ x. All (R x) ((agent, row) ∷ filter is_greater rows)) (λ x pass.
    All-cons (R x) (agent, row) (filter is_greater rows) (grind (arith, nat_tests, pass)) (all-filter_pass is_greater rows (R x) (λ e pass_also. grind (arith, nat_tests, pass, pass_also)))))

pub by_agent-without : (rows : List (ℕ × Row)) (agent : ℕ) → IsByAgent rows → IsByAgent (without_row rows agent)
by_agent-without rows agent up = AllPairs-filter (λ a b. a.0 < b.0) (λ entry. not (eqb entry.0 agent)) rows up

-- one table alone has the row for the agent, and the others' rows as they were
pub with_row_is : (old new : List (ℕ × Row)) (agent : ℕ) (row : Row) → IsByAgent old → IsByAgent new → ChangesRow old new agent (Some row) → new ≡ with_row old agent row
with_row_is old new agent row up_old up_new changes = one_table_holds new (with_row old agent row) up_new (by_agent-with_row old agent row up_old) (λ q.
    grind (arith, nat_tests, changes.this_agent, changes.other_agents q, row_of-with_row old agent row q))

pub without_row_is : (old new : List (ℕ × Row)) (agent : ℕ) → IsByAgent old → IsByAgent new → ChangesRow old new agent None → new ≡ without_row old agent
without_row_is old new agent up_old up_new changes = one_table_holds new (without_row old agent) up_new (by_agent-without old agent up_old) (λ q.
    grind (arith, nat_tests, changes.this_agent, changes.other_agents q, row_of-without_row old agent q))

pub with_changed_is : (old new : List (ℕ × Row)) (agent : ℕ) (row : Row) (change : Row → Row) → row_of old agent ≡ Some row → IsByAgent old → IsByAgent new → ChangesRow old new agent (Some (change row)) → new ≡ with_changed old agent change
with_changed_is old new agent row change there up_old up_new changes = rw there (with_row_is old new agent (change row) up_old up_new changes)
