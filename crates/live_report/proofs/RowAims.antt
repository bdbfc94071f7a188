-- Who aims at which goal, after one row of a fleet has changed.
use Rattle.std.proofs.Common.{◌≡◌, ◌≢◌, ℕ, cond, eqb, true, false, inl, inr, List, Contains, Option, Some, None, sym, ap, ◌∙◌, subst, arith}
use mathlib.Core.Logic.{◌↔◌}
use Rattle.std.proofs.lemmas.Bool.Decides.{eqb_tells, nat_tests}
use Rattle.std.proofs.lemmas.Option.{none-some, same_Some, gets}
use Rattle.std.proofs.lemmas.Grind.{common_steps}
use Rattle.grid_cells.specs.Cell.{Point}
use Rattle.plan_table.specs.Plans.{row_of, ChangesRow}
use Rattle.plan_table.specs.declared.plans.Row.{Row}
use Rattle.plan_table.specs.Sets.{Gains, Loses}
use Rattle.live_report.specs.Aims.{aim}
use Rattle.live_report.specs.Prices.{Rows, with_row_in, AimsAt}
use Rattle.live_report.specs.declared.aims.Aim.{Aim}

-- the aims are those of the fleet
abbrev pub AreAims : Rows → List Aim → Type 0
AreAims fleet aims = (a : Aim) → Contains aims a ↔ AimsAt fleet a.agent a.goal

-- an agent's aim, read in other rows that have the same row for it
pub aims_same : (rows other : Rows) (agent : ℕ) (goal : Point) → rows agent ≡ other agent → AimsAt rows agent goal → AimsAt other agent goal
aims_same rows other agent goal same at = record { row = at.row; live = sym same ∙ at.live; aims = at.aims }

aims_of : (rows : Rows) (agent : ℕ) (goal : Point) → AimsAt rows agent goal → (other : ℕ) → agent ≡ other → AimsAt rows other goal
aims_of rows agent goal at other e = record { row = at.row; live = ap rows (sym e) ∙ at.live; aims = at.aims }

-- an agent has one goal
one_goal : (rows : Rows) (agent : ℕ) (goal other : Point) → AimsAt rows agent goal → AimsAt rows agent other → goal ≡ other
one_goal rows agent goal other at too = sym at.aims ∙ ap (λ (r : Row). r.goal) (same_Some at.row too.row (sym at.live ∙ too.live)) ∙ too.aims

same_aim : (a : Aim) (goal : Point) (agent : ℕ) → a.goal ≡ goal → a.agent ≡ agent → a ≡ aim goal agent
same_aim a goal agent goals agents = λ i. record { goal = goals i; agent = agents i }

module _ (fleet : Rows) (agent : ℕ) (changed : Option Row) (other : ℕ) where
  pub row_here : eqb other agent ≡ true → with_row_in fleet agent changed other ≡ changed
  row_here e = ap (λ b. cond b changed (fleet other)) e

  pub row_elsewhere : eqb other agent ≡ false → with_row_in fleet agent changed other ≡ fleet other
  row_elsewhere e = ap (λ b. cond b changed (fleet other)) e

-- the rows of a table, one agent's row changed
pub rows_changed : (rows : Rows) (old new : List (ℕ × Row)) (agent : ℕ) (changed : Option Row) → ((other : ℕ) → row_of old other ≡ rows other) → ChangesRow old new agent changed → (other : ℕ) → row_of new other ≡ with_row_in rows agent changed other
rows_changed rows old new agent changed same change other = grind (arith, nat_tests, common_steps, gets)

module _ (fleet : Rows) (agent : ℕ) (row : Row) (other : ℕ) (goal : Point) (is : eqb other agent ≡ true) where
  goal_here : AimsAt (with_row_in fleet agent (Some row)) other goal → row.goal ≡ goal
  goal_here at = ap (λ (r : Row). r.goal) (same_Some row at.row (sym (row_here fleet agent (Some row) other is) ∙ at.live)) ∙ at.aims

  aims_here : row.goal ≡ goal → AimsAt (with_row_in fleet agent (Some row)) other goal
  aims_here same = record { row = row; live = row_here fleet agent (Some row) other is; aims = same }

module _ (fleet : Rows) (agent : ℕ) (old new : List Aim) (were : AreAims fleet old) where
  -- a row that comes
  pub aims_put : (row : Row) → fleet agent ≡ None → Gains old new (aim row.goal agent) → AreAims (with_row_in fleet agent (Some row)) new
  aims_put row absent gains a = elim (eqb_tells a.agent agent) [
    | inl is ↦ (
      (λ h. elim ((gains a).0 h) [
        | inl was ↦ let at = (were a).0 was in absurd (none-some at.row (sym absent ∙ ap fleet (sym is.1) ∙ at.live))
        | inr e ↦ aims_here fleet agent row a.agent a.goal is.0 (sym (ap (λ (v : Aim). v.goal) e))
      ]),
      (λ at. (gains a).1 (inr (same_aim a row.goal agent (sym (goal_here fleet agent row a.agent a.goal is.0 at)) is.1))),
    )
    | inr apart ↦
        let same = row_elsewhere fleet agent (Some row) a.agent apart.0 in (
          (λ h. elim ((gains a).0 h) [
            | inl was ↦ aims_same fleet (with_row_in fleet agent (Some row)) a.agent a.goal (sym same) ((were a).0 was)
            | inr e ↦ absurd (apart.1 (ap (λ (v : Aim). v.agent) e))
          ]),
          (λ at. (gains a).1 (inl ((were a).1 (aims_same (with_row_in fleet agent (Some row)) fleet a.agent a.goal same at)))),
        )
  ]

  -- a row that goes
  pub aims_take : (goal : Point) → AimsAt fleet agent goal → Loses old new (aim goal agent) → AreAims (with_row_in fleet agent None) new
  aims_take goal at loses a = elim (eqb_tells a.agent agent) [
    | inl is ↦ (
      (λ h.
          let kept = (loses a).0 h in
          absurd (kept.1 (same_aim a goal agent (one_goal fleet a.agent a.goal goal ((were a).0 kept.0) (aims_of fleet agent goal at a.agent (sym is.1))) is.1))),
      (λ now. absurd (none-some now.row (sym (row_here fleet agent None a.agent is.0) ∙ now.live))),
    )
    | inr apart ↦
        let same = row_elsewhere fleet agent None a.agent apart.0 in (
          (λ h. aims_same fleet (with_row_in fleet agent None) a.agent a.goal (sym same) ((were a).0 ((loses a).0 h).0)),
          (λ now. (loses a).1 ((were a).1 (aims_same (with_row_in fleet agent None) fleet a.agent a.goal same now), λ e. apart.1 (ap (λ (v : Aim). v.agent) e))),
        )
  ]

  -- a row that keeps its goal
  pub aims_stay : (row : Row) → AimsAt fleet agent row.goal → AreAims (with_row_in fleet agent (Some row)) old
  aims_stay row at a = elim (eqb_tells a.agent agent) [
    | inl is ↦ (
      (λ h. aims_here fleet agent row a.agent a.goal is.0 (one_goal fleet a.agent row.goal a.goal (aims_of fleet agent row.goal at a.agent (sym is.1)) ((were a).0 h))),
      (λ now.
          let goals : row.goal ≡ a.goal = goal_here fleet agent row a.agent a.goal is.0 now in
          (were a).1 (subst (AimsAt fleet a.agent) goals (aims_of fleet agent row.goal at a.agent (sym is.1)))),
    )
    | inr apart ↦
        let same = row_elsewhere fleet agent (Some row) a.agent apart.0 in (
          (λ h. aims_same fleet (with_row_in fleet agent (Some row)) a.agent a.goal (sym same) ((were a).0 h)),
          (λ now. (were a).1 (aims_same (with_row_in fleet agent (Some row)) fleet a.agent a.goal same now)),
        )
  ]

  -- a row that gets another goal
  pub aims_moved : (mid : List Aim) (row : Row) (before : Point) → AimsAt fleet agent before → before ≢ row.goal → Gains old mid (aim row.goal agent) → Loses mid new (aim before agent) → AreAims (with_row_in fleet agent (Some row)) new
  aims_moved mid row before at moves gains loses a = elim (eqb_tells a.agent agent) [
    | inl is ↦ (
      (λ h.
          let kept = (loses a).0 h in
          elim ((gains a).0 kept.0) [
            | inl was ↦ absurd (kept.1 (same_aim a before agent (one_goal fleet a.agent a.goal before ((were a).0 was) (aims_of fleet agent before at a.agent (sym is.1))) is.1))
            | inr e ↦ aims_here fleet agent row a.agent a.goal is.0 (sym (ap (λ (v : Aim). v.goal) e))
          ]),
      (λ now.
          let goals : row.goal ≡ a.goal = goal_here fleet agent row a.agent a.goal is.0 now in
          (loses a).1 ((gains a).1 (inr (same_aim a row.goal agent (sym goals) is.1)), λ e. moves (sym (ap (λ (v : Aim). v.goal) e) ∙ sym goals))),
    )
    | inr apart ↦
        let same = row_elsewhere fleet agent (Some row) a.agent apart.0 in (
          (λ h. elim ((gains a).0 ((loses a).0 h).0) [
            | inl was ↦ aims_same fleet (with_row_in fleet agent (Some row)) a.agent a.goal (sym same) ((were a).0 was)
            | inr e ↦ absurd (apart.1 (ap (λ (v : Aim). v.agent) e))
          ]),
          (λ now. (loses a).1 ((gains a).1 (inl ((were a).1 (aims_same (with_row_in fleet agent (Some row)) fleet a.agent a.goal same now))), λ e. apart.1 (ap (λ (v : Aim). v.agent) e))),
        )
  ]
