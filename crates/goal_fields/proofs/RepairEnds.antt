use Rattle.std.proofs.lemmas.Bool.Decides.{nat_tests}
use Rattle.std.specs.Prelude.{◌==◌, true, false}
use Rattle.std.proofs.Common.{Some, None, ◌≡◌, ◌≢◌, ℕ, zero, suc, ◌+◌, ◌<◌, ◌≤◌, List, length, refl, sym, ◌∙◌, inl, inr, arith}
use Rattle.std.proofs.lemmas.Bool.{cases_eq, cases_lt}
use Rattle.std.proofs.lemmas.Bool.{eq-eqb}
use Rattle.std.proofs.Common.{eqb}
use Rattle.std.specs.List.{list_any}
use Rattle.std.proofs.lemmas.List.Folds.{list_any_at}
use Rattle.std.proofs.lemmas.Map.Steps.{le-length_from_below}
use Rattle.grid_cells.specs.Cell.{Point, IsAdjacent}
use Rattle.grid_cells.specs.Size.{Holds}
use Rattle.grid_cells.specs.Grid.{flag_index, Chart, IsOpen}
use Rattle.cell_queue.specs.Queue.{area}
use Rattle.grid_cells.specs.Walks.{Walk, IsDistance}
use Rattle.goal_fields.specs.Marks.{far, mark_at, distance_of}
use Rattle.goal_fields.specs.Repair.{IsRhs, change}
use Rattle.cell_queue.proofs.Indexes.{index_below}
use Rattle.goal_fields.proofs.Neighbours.{cases_cell, Walk-open}
use Rattle.goal_fields.proofs.RepairLemmas.{cases_open}

-- a taking adds one to the count
pub change-over : (d g r : ℕ) → d ≤ far → g ≤ far → r < g → (g < far → g ≢ d → r ≡ g) → (g ≡ far → d < far → d < r) → change d r ≡ change d g + 1
change-over d g r dl gl lt settled raised = grind (arith, nat_tests)

pub change-under : (d g : ℕ) → g ≡ d → g < far → change d far ≡ change d g + 1
change-under d g e lt = grind (arith, nat_tests)

-- nothing has changed where nothing was taken
pub change-same : (d : ℕ) → change d d ≡ 0
change-same d = grind arith

pub change-le : (d g : ℕ) → change d g ≤ 2
change-le d g = grind arith

-- each g is the length of a walk, once g and rhs agree
pub Walk-consistent : (grid : Chart) (goal : Point) (g : Point → ℕ) → ((c : Point) → Holds grid.size c → IsRhs grid goal g c (g c)) →
    (n : ℕ) (c : Point) → Holds grid.size c → g c ≡ n → n < far → Walk grid n c goal
Walk-consistent grid goal g eq zero c h e lt = elim (cases_open grid c) [
  | inl o ↦ (o, grind (arith, cases_cell c goal, (eq c h).lower o))
  | inr shut ↦ absurd (omega (arith, (eq c h).closed shut))
]
Walk-consistent grid goal g eq (suc n) c h e lt = elim (cases_open grid c) [
  | inl o ↦
      let not : c ≢ goal = grind (arith, (eq c h).at_goal o) in
      let (next, adj, on, step) =
      (eq c h).lower o not (omega arith) in (o, (next, adj, Walk-consistent grid goal g eq n next on.0 (omega (arith, step)) (omega arith)))
  | inr shut ↦ absurd (omega (arith, (eq c h).closed shut))
]

-- below a g that is given there is a cell with each lesser one
pub levels : (grid : Chart) (goal : Point) (g : Point → ℕ) → ((c : Point) → Holds grid.size c → IsRhs grid goal g c (g c)) →
    (n : ℕ) (c : Point) → Holds grid.size c → g c ≡ n → n < far → (j : ℕ) → j ≤ n → (v : Point) × Holds grid.size v × (g v ≡ j)
levels grid goal g eq zero c h e lt j le = (c, h, omega arith)
levels grid goal g eq (suc n) c h e lt j le = elim (cases_eq j (suc n)) [
  | inl is ↦ (c, h, e ∙ sym is)
  | inr less ↦ elim (cases_open grid c) [
    | inl o ↦
        let not : c ≢ goal = grind (arith, (eq c h).at_goal o) in
        let (next, adj, on, step) = (eq c h).lower o not (omega arith) in levels grid goal g eq n next on.0 (omega (arith, step)) (omega arith) j (omega arith)
    | inr shut ↦ absurd (omega (arith, (eq c h).closed shut))
  ]
]

-- a g that is given is below the number of cells
pub mark_at-lt : (grid : Chart) (goal : Point) (marks : List ℕ) → length marks ≡ area grid.size →
    ((c : Point) → Holds grid.size c → IsRhs grid goal (mark_at grid.size marks) c (mark_at grid.size marks c)) →
    (c : Point) → Holds grid.size c → mark_at grid.size marks c < far → mark_at grid.size marks c < area grid.size
mark_at-lt grid goal marks len eq c h lt =
    let all : (j : ℕ) → j < mark_at grid.size marks c + 1 → list_any (eqb j) marks ≡ true =
    (λ j l. (let (v, hv, e) = levels grid goal (mark_at grid.size marks) eq (mark_at grid.size marks c) c h refl lt j (omega arith) in
    list_any_at (eqb j) marks (flag_index grid.size v) 0 (omega (arith, index_below grid.size v hv)) (eq-eqb _ _ (sym e)))) in
    omega (arith, le-length_from_below marks (mark_at grid.size marks c + 1) all)

-- no walk is shorter than a g, once g and rhs agree
pub Walk-least : (grid : Chart) (goal : Point) (g : Point → ℕ) → ((c : Point) → Holds grid.size c → IsRhs grid goal g c (g c)) →
    ((c : Point) → Holds grid.size c → g c < far → g c < area grid.size) →
    area grid.size ≤ 1048576 → (m : ℕ) (c : Point) → Walk grid m c goal → (g c < far) × (g c ≤ m)
Walk-least grid goal g eq small limit zero c w = omega (arith, (eq c w.0.0).at_goal w.0 w.1)
Walk-least grid goal g eq small limit (suc m) c (o, (next, adj, rest)) =
    let ih : (g next < far) × (g next ≤ m) = Walk-least grid goal g eq small limit m next rest in
    let on : IsOpen grid next = Walk-open grid goal m next rest in
    elim (cases_cell c goal) [
      | inl is ↦ omega (arith, (eq c o.0).at_goal o is)
      | inr not ↦ omega (arith, (eq c o.0).upper o not next adj on, small next on.0 ih.0)
    ]

pub far_no : (m : ℕ) → m < far → (m == far) ≡ false
far_no m h = grind arith

pub far_yes : (m : ℕ) → m ≤ far → far ≤ m → (m == far) ≡ true
far_yes m h k = grind arith

-- once g and rhs agree, g is the distance
pub IsDistance-consistent : (grid : Chart) (goal : Point) (marks : List ℕ) → length marks ≡ area grid.size → area grid.size ≤ 1048576 →
    ((c : Point) → Holds grid.size c → IsRhs grid goal (mark_at grid.size marks) c (mark_at grid.size marks c)) →
    (c : Point) → Holds grid.size c → IsDistance grid c goal (distance_of (mark_at grid.size marks c))
IsDistance-consistent grid goal marks len limit eq c h = elim (cases_lt (mark_at grid.size marks c) far) [
  | inl below ↦ rw (far_no (mark_at grid.size marks c) below) (
    Walk-consistent grid goal (mark_at grid.size marks) eq (mark_at grid.size marks c) c h refl below,
    λ m w. (least m w).1,
  )
  | inr above ↦ rw (far_yes (mark_at grid.size marks c) (eq c h).bounded above) (λ m w. absurd (omega (arith, least m w)))
]
  where
    least : (m : ℕ) → Walk grid m c goal → (mark_at grid.size marks c < far) × (mark_at grid.size marks c ≤ m)
    least m w = Walk-least grid goal (mark_at grid.size marks) eq (mark_at-lt grid goal marks len eq) limit m c w

-- the distances meet the equation of rhs
module _ (grid : Chart) (goal : Point) (g : Point → ℕ) (right : (c : Point) → Holds grid.size c → IsDistance grid c goal (distance_of (g c))) (bounded : (c : Point) → Holds grid.size c → g c ≤ far) where
  walk_of : (c : Point) → Holds grid.size c → g c < far → Walk grid (g c) c goal
  walk_of c h below = (let given : (g c == far) ≡ false = far_no (g c) below in let at : IsDistance grid c goal (Some (g c)) = rw given at (right c h) in at.0)

  no_less : (c : Point) → Holds grid.size c → (m : ℕ) → Walk grid m c goal → (g c < far) × (g c ≤ m)
  no_less c h m w = elim (cases_lt (g c) far) [
    | inl below ↦ (let given : (g c == far) ≡ false = far_no (g c) below in let at : IsDistance grid c goal (Some (g c)) = rw given at (right c h) in (below, at.1 m w))
    | inr above ↦ (let none : (g c == far) ≡ true = far_yes (g c) (bounded c h) above in let at : IsDistance grid c goal None = rw none at (right c h) in absurd (at m w))
  ]

  above_next : (c next : Point) → IsOpen grid c → IsAdjacent c next → IsOpen grid next → g c ≤ g next + 1
  above_next c next o adj on = elim (cases_lt (g next) far) [
    | inl below ↦ omega (arith, (no_less c o.0 (suc (g next)) (o, (next, adj, walk_of next on.0 below))).1)
    | inr above ↦ omega (arith, bounded c o.0)
  ]

  first_step : (c : Point) → (c ≡ goal → ⊥) → (n : ℕ) → g c ≡ n → Walk grid n c goal → (next : Point) × IsAdjacent c next × IsOpen grid next × (g c ≡ g next + 1)
  first_step c ne zero e w = absurd (ne w.1)
  first_step c ne (suc n) e (o, (next, adj, rest)) =
      let on : IsOpen grid next = Walk-open grid goal n next rest in
      (next, adj, on, omega (arith, e, above_next c next o adj on, (no_less next on.0 n rest).1))

  pub IsRhs-distance : (c : Point) → Holds grid.size c → IsRhs grid goal g c (g c)
  IsRhs-distance c h = record {
    bounded = bounded c h;
    closed = λ shut. elim (cases_lt (g c) far) [
      | inl below ↦ absurd (shut (Walk-open grid goal (g c) c (walk_of c h below)))
      | inr above ↦ omega (arith, bounded c h)
    ];
    at_goal = λ o e. omega (arith, (no_less c h 0 (o, e)).1);
    upper = λ o ne next adj on. above_next c next o adj on;
    lower = λ o ne below. first_step c ne (g c) refl (walk_of c h below);
  }
