-- The edits before a repair, and the state in which it begins.
use Rattle.std.proofs.lemmas.Bool.Decides.{nat_tests}
use Rattle.std.specs.Prelude.{Bool, true, false, ◌==◌, ◌&&◌}
use Rattle.std.proofs.Common.{◌≡◌, ℕ, ◌+◌, ◌<◌, ◌≤◌, ◌⊎◌, inl, inr, List, [], ◌∷◌, ◌++◌, refl, sym, ap, subst, ◌∙◌, arith}
use Rattle.std.proofs.lemmas.List.Elements.{Contains-push_cases}
use Rattle.std.proofs.lemmas.Bool.{cases_lt}
use Rattle.grid_cells.specs.Cell.{Point, IsAdjacent}
use Rattle.grid_cells.specs.Size.{Extent, Holds}
use Rattle.grid_cells.specs.Grid.{Chart, IsOpen}
use Rattle.cell_queue.specs.Queue.{IsEmpty}
use Rattle.goal_fields.specs.declared.lifelong.Lifelong.{Lifelong}
use Rattle.goal_fields.specs.Repair.{IsRhs}
use Rattle.goal_fields.proofs.FollowLemmas.{key_none_is}
use Rattle.goal_fields.specs.Marks.{far, mark_at}
use Rattle.goal_fields.specs.Target.{flag_at, Covers}
use Rattle.goal_fields.specs.Lifelong.{g_of, IsRoomy, IsGood, Waits, IsTouched, IsConsistent, IsSettled, IsInRepair}
use Rattle.goal_fields.specs.Taking.{Advances, IsUnstirred}
use Rattle.goal_fields.proofs.Neighbours.{IsAdjacent-sym, cases_adjacent}
use Rattle.goal_fields.proofs.UpdateLemmas.{key_none}
use Rattle.goal_fields.proofs.TakeLemmas.{count_over-same, rhs_in, rhs_in-good, IsRhs-good}
use Rattle.goal_fields.proofs.CoverLemmas.{cases_flag}

-- a test is not both
pub false≢true_at : {b : Bool} → false ≡ b → b ≡ true → ⊥
false≢true_at p q = (let x : false ≡ true = p ∙ q in cc)

-- equal cells pass the test of their coordinates
pub same_eq : (a b : Point) → a ≡ b → (a.y == b.y && a.x == b.x) ≡ true
same_eq a b e = grind (arith, nat_tests)

-- where each cell is good and nothing is taken, a repair begins
pub IsInRepair-begin : (now : Lifelong) → IsRoomy now → ((c : Point) → Holds now.grid.size c → IsGood now c) → ((c : Point) → Holds now.grid.size c → g_of now c ≤ far) → now.queue.taken ≡ 0 → IsInRepair now.g.items now 0
IsInRepair-begin now roomy good top taken =
    record {
      roomy = roomy;
      one_each = roomy.one_g_each;
      rhs = rhs_in now good;
      repairing = record {
        equation = λ c h. (rhs_in-good now good c h).0;
        bounded = top;
        given = top;
        low = λ c h ne. (omega arith, omega arith);
        raised = λ c h is below. absurd (omega arith);
        settled = λ c h below ne. absurd (ne refl);
      };
      queued = λ c h. (rhs_in-good now good c h).1;
      counted = taken ∙ sym (count_over-same now.g.items);
    }

-- a repair whose queue is empty has come to its end
pub IsSettled-ended : (d : List ℕ) (s : Lifelong) (floor : ℕ) → IsInRepair d s floor → IsEmpty s.queue → IsSettled s
IsSettled-ended d s floor inv empty =
    record {
      roomy = inv.roomy;
      consistent = λ c h. (let same : inv.rhs c ≡ g_of s c = sym (key_none_is (g_of s c) (inv.rhs c) (sym (empty c (rw inv.roomy.queue h)) ∙ inv.queued c h)) in
          subst (λ (r : ℕ). IsRhs s.grid s.goal (g_of s) c r) same (inv.repairing.equation c h));
      empty = empty;
    }

-- one more cell is touched: where it is closed and had a distance, each neighbour is good or isn't stirred by its closing
pub IsTouched-more : (start old new : Lifelong) (done : List Point) (a : Point) → Advances old new → IsRoomy new → IsGood new a →
    ((c : Point) → Holds new.grid.size c → IsAdjacent a c → g_of new a < far → IsOpen new.grid a ⊎ (IsGood new c ⊎ IsUnstirred new c (g_of new a) far)) →
    IsTouched start old done → IsTouched start new (done ++ a ∷ [])
IsTouched-more start old new done a on roomy here near t =
    record {
      roomy = roomy;
      grid = grid;
      goal = on.same.goal ∙ t.goal;
      g = on.same.g ∙ t.g;
      taken = on.same.taken ∙ t.taken;
      total = on.same.total ∙ t.total;
      here = λ v con h. elim (Contains-push_cases done a v con) [ inl before ↦ on.keeps v (rw t.grid h) (t.here v before h) | inr last ↦ subst (IsGood new) last here ];
      each = λ c h. elim (t.each c h) [
        | inl good ↦ inl (on.keeps c (rw t.grid h) good)
        | inr waits ↦ elim (on.others c (rw t.grid h)) [
          | inl good ↦ inl good
          | inr kept ↦ elim (good_or_free c h) [
            | inl good ↦ inl good
            | inr free ↦ inr (record {
              unqueued = kept ∙ waits.unqueued;
              on_way = λ v con hv adj lt e. elim (Contains-push_cases done a v con) [
                | inl before ↦ waits.on_way v before hv adj lt e
                | inr is ↦ rw (← is) (free (rw (← is) at adj) (rw (← is) at lt) (rw (← is) at e))
              ];
            })
          ]
        ]
      ];
    }
  where
    grid : new.grid ≡ start.grid
    grid = on.same.grid ∙ t.grid

    same : (c : Point) → g_of new c ≡ g_of start c
    same c = ap (λ (z : Chart). mark_at z.size new.g.items c) grid ∙ ap (λ (xs : List ℕ). mark_at start.grid.size xs c) (on.same.g ∙ t.g)

    good_or_free : (c : Point) → Holds start.grid.size c → IsGood new c ⊎ (IsAdjacent c a → g_of start a < far → g_of start c ≡ g_of start a + 1 →
        IsOpen start.grid a)
    good_or_free c h = elim (cases_adjacent a c) [
      | inr apart ↦ inr (λ adj lt e. absurd (apart (IsAdjacent-sym c a adj)))
      | inl adj ↦ elim (cases_lt (g_of start a) far) [
        | inr none ↦ inr (λ back lt e. absurd (omega arith))
        | inl some ↦ elim (near c (rw grid h) adj (omega (arith, same a))) [
          | inl free ↦ inr (λ back lt e. rw (← grid) free)
          | inr (inl good) ↦ inl good
          | inr (inr still) ↦ inr (λ back lt e. absurd (still.raised (omega (arith, same a)) (omega (arith, same a, same c))))
        ]
      ]
    ]

-- a cell that still waits has the same equation on the new map
IsRhs-waiting : (old : Chart) (start now : Lifelong) (changed : List Point) (c : Point) → old.size ≡ start.grid.size → Covers changed old start.grid →
    ((v : Point) → Holds start.grid.size v → IsRhs old start.goal (g_of start) v (g_of start v)) → Holds start.grid.size c → flag_at old c ≡ flag_at start.grid c → Waits start now changed c →
    IsRhs start.grid start.goal (g_of start) c (g_of start c)
IsRhs-waiting old start now changed c size covers at_start held here waits =
    record {
      bounded = a.bounded;
      closed = λ shut. a.closed (λ o. shut (on_new c here o));
      at_goal = λ o e. a.at_goal (on_old c here o) e;
      upper = λ o n v adj on. elim (cases_flag (flag_at old v) (flag_at start.grid v)) [
        | inl same ↦ a.upper (on_old c here o) n v adj (on_old v same on)
        | inr differ ↦ (let none : g_of start v ≡ far = (at_start v on.0).closed (λ was. differ (was.1 ∙ sym on.1)) in omega (arith, none, a.bounded))
      ];
      lower = λ o n lt. (let (v, adj, on, e) = a.lower (on_old c here o) n lt in
          let hv : Holds start.grid.size v = subst (λ (z : Extent). Holds z v) size on.0 in
          (v, adj, elim (cases_flag (flag_at old v) (flag_at start.grid v)) [ inl same ↦ on_new v same on | inr differ ↦ waits.on_way v (covers v on.0 differ) hv adj (omega (arith, lt, e)) e ], e));
    }
  where
    a : IsRhs old start.goal (g_of start) c (g_of start c)
    a = at_start c held

    on_new : (v : Point) → flag_at old v ≡ flag_at start.grid v → IsOpen old v → IsOpen start.grid v
    on_new v same o = (subst (λ (z : Extent). Holds z v) size o.0, sym same ∙ o.1)

    on_old : (v : Point) → flag_at old v ≡ flag_at start.grid v → IsOpen start.grid v → IsOpen old v
    on_old v same o = (subst (λ (z : Extent). Holds z v) (sym size) o.0, same ∙ o.1)

-- once the changed cells are touched, each cell is good, and a repair begins
pub IsInRepair-touched : (old : Chart) (start now : Lifelong) (changed : List Point) → old.size ≡ start.grid.size → Covers changed old start.grid → IsConsistent old start →
    IsTouched start now changed → IsInRepair now.g.items now 0
IsInRepair-touched old start now changed size covers consistent t =
    IsInRepair-begin now t.roomy (λ c h. good c (subst (λ (z : Chart). Holds z.size c) t.grid h)) top t.taken
  where
    at_start : (c : Point) → Holds start.grid.size c → IsRhs old start.goal (g_of start) c (g_of start c)
    at_start c h = (let held : Holds old.size c = rw size h in subst (λ (z : Extent). IsRhs old start.goal (mark_at z start.g.items) c (mark_at z start.g.items c)) size (consistent c held))

    same : (c : Point) → g_of now c ≡ g_of start c
    same c = ap (λ (z : Chart). mark_at z.size now.g.items c) t.grid ∙ ap (λ (xs : List ℕ). mark_at start.grid.size xs c) t.g

    top : (c : Point) → Holds now.grid.size c → g_of now c ≤ far
    top c h = omega (arith, same c, (at_start c (subst (λ (z : Chart). Holds z.size c) t.grid h)).bounded)

    good : (c : Point) → Holds start.grid.size c → IsGood now c
    good c h = elim (t.each c h) [
      | inl well ↦ well
      | inr waits ↦ elim (cases_flag (flag_at old c) (flag_at start.grid c)) [
        | inr differ ↦ t.here c (covers c (rw size h) differ) h
        | inl here ↦ record {
          rhs = g_of start c;
          equation = subst (λ (xs : List ℕ). IsRhs now.grid now.goal (mark_at now.grid.size xs) c (g_of start c)) (sym t.g)
              (IsRhs-good now start (sym t.grid) (sym t.goal) c (g_of start c) (IsRhs-waiting old start now changed c size covers at_start h here waits));
          queued = waits.unqueued ∙ key_none (g_of now c) (g_of start c) (same c);
        }
      ]
    ]
