use Rattle.std.proofs.lemmas.Bool.{cases_eq}
use Rattle.std.proofs.lemmas.Bool.Decides.{nat_tests}
use Rattle.std.proofs.Common.{◌≡◌, ◌≢◌, ℕ, ◌+◌, ◌<◌, ◌≤◌, ◌⊎◌, refl, sym, ap, ◌∙◌, inl, inr, arith}
use Rattle.grid_cells.specs.Cell.{Point}
use Rattle.grid_cells.specs.Size.{Holds}
use Rattle.grid_cells.specs.Grid.{Chart, IsOpen}
use Rattle.goal_fields.specs.Marks.{far}
use Rattle.goal_fields.specs.Repair.{IsRhs, IsRepairing, IsTaken, IsWrite}
use Rattle.goal_fields.proofs.Neighbours.{cases_cell, cases_held}

-- whether a cell is open
pub cases_open : (grid : Chart) (c : Point) → IsOpen grid c ⊎ (IsOpen grid c → ⊥)
cases_open grid c = grind (arith, nat_tests, cases_held grid.size c)

-- a cell after one g was written
written : (grid : Chart) (g g' : Point → ℕ) (u : Point) (value : ℕ) → IsWrite grid g g' u value → (n : Point) → Holds grid.size n →
    ((g n ≡ g u) × (g' n ≡ value)) ⊎ (g' n ≡ g n)
written grid g g' u value w n held = elim (cases_cell n u) [
  | inl e ↦ inl (ap g e, ap g' e ∙ w.here)
  | inr ne ↦ inr (w.elsewhere n held ne)
]

-- where no g rises, no rhs does
rhs_le : (grid : Chart) (goal : Point) (g g' : Point → ℕ) → ((n : Point) → Holds grid.size n → g' n ≤ g n) →
    (c : Point) (r r' : ℕ) → IsOpen grid c → c ≢ goal → IsRhs grid goal g c r → IsRhs grid goal g' c r' → r' ≤ r
rhs_le grid goal g g' falls c r r' o n a b = elim (cases_eq r far) [
  | inl e ↦ omega (arith, b.bounded)
  | inr ne ↦
      let (next, near, open_next, is) = a.lower o n (omega (arith, a.bounded)) in
      omega (arith, is, b.upper o n next near open_next, falls next open_next.0)
]

-- where one g falls to `key`, each rhs stays or falls to `key + 1`
rhs_falls : (grid : Chart) (goal : Point) (g g' : Point → ℕ) (u : Point) (key : ℕ) →
    IsWrite grid g g' u key → key ≤ g u → (c : Point) (r r' : ℕ) → IsRhs grid goal g c r → IsRhs grid goal g' c r' →
    (r' ≡ r) ⊎ ((r' ≡ key + 1) × (key + 1 ≤ r))
rhs_falls grid goal g g' u key w le c r r' a b = elim (cases_open grid c) [
  | inr shut ↦ inl (b.closed shut ∙ sym (a.closed shut))
  | inl o ↦ elim (cases_cell c goal) [
    | inl e ↦ inl (b.at_goal o e ∙ sym (a.at_goal o e))
    | inr n ↦ open_falls o n (cases_eq r' far)
  ]
]
  where
    open_falls : IsOpen grid c → c ≢ goal → ((r' ≡ far) ⊎ (r' ≡ far → ⊥)) → (r' ≡ r) ⊎ ((r' ≡ key + 1) × (key + 1 ≤ r))
    open_falls o n (inl none) = inl (omega (arith, a.bounded, rhs_le grid goal g g' (λ m held. omega (arith, written grid g g' u key w m held)) c r r' o n a b))
    open_falls o n (inr some) =
        let below : r' ≤ r = rhs_le grid goal g g' (λ m held. omega (arith, written grid g g' u key w m held)) c r r' o n a b in
        let (next, near, open_next, is) = b.lower o n (omega (arith, b.bounded)) in
        elim (written grid g g' u key w next open_next.0) [
          | inl at ↦ inr (omega (arith, is, at.1), omega (arith, is, at.1, below))
          | inr same ↦ inl (omega (arith, is, same, below, a.upper o n next near open_next))
        ]

-- a taking with g above rhs keeps the invariants, and the key is the new floor
pub IsRepairing-over : (grid : Chart) (goal : Point) (d g g' r r' : Point → ℕ) (floor : ℕ) (u : Point) →
    IsRepairing grid goal d g r floor → IsTaken grid g r u (r u) → floor ≤ r u → r u < g u → IsWrite grid g g' u (r u) →
    ((c : Point) → Holds grid.size c → IsRhs grid goal g' c (r' c)) → IsRepairing grid goal d g' r' (r u)
IsRepairing-over grid goal d g g' r r' floor u s t up over w eq =
    record {
      equation = eq;
      bounded = λ c h. elim (cases_cell c u) [
        | inl e ↦ omega (arith, ap g' e, w.here, s.bounded u t.held)
        | inr n ↦ omega (arith, w.elsewhere c h n, s.bounded c h)
      ];
      given = s.given;
      low = λ c h ne. elim (cases_cell c u) [
        | inl e ↦ omega (arith, ap g' e, ap r e, w.here, falls c h)
        | inr n ↦ elim (cases_eq (g c) (r c)) [
          | inl same ↦ omega (arith, w.elsewhere c h n, falls c h)
          | inr differ ↦ omega (arith, w.elsewhere c h n, falls c h, t.least c h differ)
        ]
      ];
      raised = λ c h is below. elim (cases_cell c u) [
        | inl e ↦ absurd (omega (arith, ap g' e, w.here, s.bounded u t.held))
        | inr n ↦ omega (arith, falls c h, s.raised c h (sym (w.elsewhere c h n) ∙ is) below)
      ];
      settled = λ c h below ne. elim (cases_cell c u) [
        | inl e ↦ omega (arith, ap g' e, ap r e, w.here, falls c h)
        | inr n ↦ let same = w.elsewhere c h n in omega (arith, same, falls c h, s.settled c h (omega (arith, same)) (λ q. ne (same ∙ q)))
      ];
    }
  where
    falls : (c : Point) → Holds grid.size c → (r' c ≡ r c) ⊎ ((r' c ≡ r u + 1) × (r u + 1 ≤ r c))
    falls c h = rhs_falls grid goal g g' u (r u) w (omega arith) c (r c) (r' c) (s.equation c h) (eq c h)

-- a taking with g below rhs keeps them too
pub IsRepairing-under : (grid : Chart) (goal : Point) (d g g' r r' : Point → ℕ) (floor : ℕ) (u : Point) →
    IsRepairing grid goal d g r floor → IsTaken grid g r u (g u) → floor ≤ g u → g u < r u → IsWrite grid g g' u far →
    ((c : Point) → Holds grid.size c → IsRhs grid goal g' c (r' c)) → IsRepairing grid goal d g' r' (g u)
IsRepairing-under grid goal d g g' r r' floor u s t up under w eq =
    record {
      equation = eq;
      bounded = λ c h. elim (cases_cell c u) [
        | inl e ↦ omega (arith, ap g' e, w.here)
        | inr n ↦ omega (arith, w.elsewhere c h n, s.bounded c h)
      ];
      given = s.given;
      low = λ c h ne. elim (cases_cell c u) [
        | inl e ↦ omega (arith, ap g' e, ap r e, w.here, rises c h, s.bounded u t.held)
        | inr n ↦ elim (cases_eq (g c) (r c)) [
          | inl same ↦ omega (arith, w.elsewhere c h n, rises c h)
          | inr differ ↦ omega (arith, w.elsewhere c h n, rises c h, t.least c h differ)
        ]
      ];
      raised = λ c h is below. elim (cases_cell c u) [
        | inl e ↦ omega (arith, ap d e, ap r e, rises c h, distance)
        | inr n ↦ omega (arith, rises c h, s.raised c h (sym (w.elsewhere c h n) ∙ is) below)
      ];
      settled = λ c h below ne. elim (cases_cell c u) [
        | inl e ↦ absurd (omega (arith, ap g' e, w.here))
        | inr n ↦ let same = w.elsewhere c h n in omega (arith, same, rises c h, s.settled c h (omega (arith, same)) (λ q. ne (same ∙ q)))
      ];
    }
  where
    -- the write the other way round is one where the g falls
    rises : (c : Point) → Holds grid.size c → (r c ≡ r' c) ⊎ ((r c ≡ g u + 1) × (g u + 1 ≤ r' c))
    rises c h =
        let back : IsWrite grid g' g u (g u) = record { here = refl; elsewhere = λ v held ne. sym (w.elsewhere v held ne) } in
        rhs_falls grid goal g' g u (g u) back (omega (arith, w.here, s.bounded u t.held)) c (r' c) (r c) (eq c h) (s.equation c h)

    distance : g u ≡ d u
    distance = elim (cases_eq (g u) (d u)) [
      | inl same ↦ same
      | inr differ ↦ absurd (omega (arith, s.settled u t.held (omega (arith, (s.equation u t.held).bounded)) differ))
    ]
