-- A list of cells has one first jump, or each cell is a step from the one before.
use Rattle.std.proofs.Common.{◌≡◌, ℕ, zero, suc, ◌+◌, ◌-◌, ◌<◌, ◌≤◌, List, [], ◌∷◌, length, get_or, ◌⊎◌, inl, inr, sym, subst, arith}
use Rattle.std.proofs.lemmas.Bool.{cases_lt, cases_order}
use Rattle.std.proofs.lemmas.List.{get_or_default}
use Rattle.grid_cells.specs.Cell.{Point, IsStep, steps_between}
use Rattle.plan_table.specs.Path.{AllStepsBelow, IsFirstJump}

not_both : (n : ℕ) → 1 < n → n ≤ 1 → ⊥
not_both n more less = omega arith

-- the step to the next cell, at any default
step_at : (cells : List Point) (n : ℕ) (d e : Point) → n + 1 < length cells → IsStep (get_or cells n d) (get_or cells (n + 1) d) → IsStep (get_or cells n e) (get_or cells (n + 1) e)
step_at cells n d e within step = rw (get_or_default cells n e d (omega arith), get_or_default cells (n + 1) e d within) step

-- with one cell more there is a jump to it, or a step
step_or_jump : (cells : List Point) (n : ℕ) (e : Point) → n + 1 < length cells → AllStepsBelow cells (n + 1) → IsFirstJump cells (n + 1) ⊎ AllStepsBelow cells (n + 2)
step_or_jump cells n e within before =
    elim (cases_lt 1 (steps_between (get_or cells n e) (get_or cells (n + 1) e))) [
      | inl far ↦ inl (record {
        later = omega arith;
        within = within;
        before = before;
        jump = λ d step.
            let at_n : IsStep (get_or cells n d) (get_or cells (n + 1) d) = subst (λ k. IsStep (get_or cells k d) (get_or cells (n + 1) d)) (let e : n + 1 - 1 ≡ n = omega arith in e) step in
            not_both _ far (step_at cells n d e within at_n);
      })
      | inr near ↦ inr (λ k d h. elim (cases_order k n) [
        | inl is ↦ subst (λ k. IsStep (get_or cells k d) (get_or cells (k + 1) d)) (sym is) (step_at cells n e d within near)
        | inr (inl early) ↦ before k d (omega arith)
        | inr (inr late) ↦ absurd (omega arith)
      ])
    ]

jump_below : (cells : List Point) (e : Point) (n : ℕ) → n < length cells → ((at : ℕ) × IsFirstJump cells at) ⊎ AllStepsBelow cells (n + 1)
jump_below cells e zero within = inr (λ k d h. absurd (omega arith))
jump_below cells e (suc n) within =
    elim (jump_below cells e n (omega arith)) [
      | inl found ↦ inl found
      | inr steps ↦ elim (step_or_jump cells n e (omega arith) steps) [
        | inl first ↦ inl (n + 1, first)
        | inr more ↦ inr (λ k d h. more k d (omega arith))
      ]
    ]

pub jump_or_steps : (cells : List Point) → ((at : ℕ) × IsFirstJump cells at) ⊎ AllStepsBelow cells (length cells)
jump_or_steps [] = inr (λ k d h. absurd (omega arith))
jump_or_steps (e ∷ rest) =
    elim (jump_below (e ∷ rest) e (length rest) (omega arith)) [
      | inl found ↦ inl found
      | inr steps ↦ inr (λ k d h. steps k d (omega arith))
    ]

-- a jump is no step, so a later one isn't the first
not_later : (cells : List Point) (a b : ℕ) (d : Point) → IsFirstJump cells a → IsFirstJump cells b → a < b → ⊥
not_later cells a b d first second less =
    let back : a - 1 + 1 ≡ a = omega (arith, first.later) in
    first.jump d (subst (λ k. IsStep (get_or cells (a - 1) d) (get_or cells k d)) back (second.before (a - 1) d (omega (arith, first.later))))

pub one_first_jump : (cells : List Point) (a b : ℕ) → IsFirstJump cells a → IsFirstJump cells b → a ≡ b
one_first_jump cells a b first second =
    let none : Point = record { x = 0; y = 0 } in
    elim (cases_order a b) [
      | inl is ↦ is
      | inr (inl less) ↦ absurd (not_later cells a b none first second less)
      | inr (inr more) ↦ absurd (not_later cells b a none second first more)
    ]

pub no_jump : (cells : List Point) → AllStepsBelow cells (length cells) → (at : ℕ) → IsFirstJump cells at → ⊥
no_jump cells steps at first =
    let none : Point = record { x = 0; y = 0 } in
    let back : at - 1 + 1 ≡ at = omega (arith, first.later) in
    first.jump none (subst (λ k. IsStep (get_or cells (at - 1) none) (get_or cells k none)) back (steps (at - 1) none (omega (arith, first.later, first.within))))
