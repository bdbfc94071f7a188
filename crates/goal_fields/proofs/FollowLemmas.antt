-- The updates that follow a write.
use Rattle.std.proofs.lemmas.Bool.Decides.{nat_tests}
use Rattle.std.proofs.Common.{length, get_or, ◌≡◌, ◌≢◌, ◌⊎◌, inl, inr, ℕ, ◌+◌, ◌≤◌, ◌<◌, List, Some, None, Option, sym, ap, subst, refl, ◌∙◌, arith}
use Rattle.std.proofs.Math.ListN.{set}
use Rattle.grid_cells.specs.Cell.{Point, IsAdjacent}
use Rattle.grid_cells.specs.Size.{Holds}
use Rattle.grid_cells.specs.Grid.{Chart, flag_index}
use Rattle.std.proofs.lemmas.List.{get_or_read}
use Rattle.cell_queue.specs.Queue.{key_at, area}
use Rattle.goal_fields.specs.declared.lifelong.Lifelong.{Lifelong}
use Rattle.goal_fields.specs.Marks.{mark_at}
use Rattle.goal_fields.specs.Repair.{IsRhs, IsWrite, key_for}
use Rattle.goal_fields.specs.Lifelong.{IsRoomy, IsGood, IsSameBut, KeepsKey, g_of}
use Rattle.goal_fields.specs.Taking.{Advances, Lags, FollowsWrite, IsTaking, IsUnstirred}
use Rattle.goal_fields.proofs.Neighbours.{cases_cell}
use Rattle.goal_fields.proofs.UpdateLemmas.{key_none}
use Rattle.goal_fields.proofs.TakeLemmas.{IsRhs-apart, IsWrite-set}

-- a g that was read
pub g_read : (s : Lifelong) (cell : Point) (i x : ℕ) → length s.g.items ≡ area s.grid.size → i < area s.grid.size → i ≡ flag_index s.grid.size cell →
    x ≡ get_or s.g.items i x → x ≡ g_of s cell
g_read s cell i x long below is read = get_or_read s.g.items i x (omega arith) read 0 ∙ ap (λ (n : ℕ). get_or s.g.items n 0) is

-- a cell without a key is consistent
pub key_none_is : (g r : ℕ) → None ≡ key_for g r → g ≡ r
key_none_is g r none = grind (arith, nat_tests)

-- a key below g is rhs
pub lowered_to : (g r key : ℕ) → key_for g r ≡ Some key → key < g → r ≡ key
lowered_to g r key e lt = grind (arith, nat_tests)

-- where the write doesn't move a cell, it keeps its equation
IsRhs-unmoved : (grid : Chart) (goal : Point) (g g' : Point → ℕ) (from c : Point) (r was now : ℕ) → IsWrite grid g g' from now → g from ≡ was →
    (now < was → r ≤ now + 1) → (was < now → r ≢ was + 1) → IsRhs grid goal g c r → IsRhs grid goal g' c r
IsRhs-unmoved grid goal g g' from c r was now w is lowered raised a =
    record {
      bounded = a.bounded;
      closed = a.closed;
      at_goal = a.at_goal;
      upper = λ o ne n adj on. grind (arith, cases_cell n from, w.here, w.elsewhere n on.0, a.upper o ne n adj on);
      lower = λ o ne lt. (let (n, adj, on, e) = a.lower o ne lt in (n, adj, on, grind (arith, cases_cell n from, w.here, w.elsewhere n on.0)));
    }

-- a cell that lags and isn't stirred is good
pub IsGood-unstirred : (g : Point → ℕ) (s : Lifelong) (from c : Point) (was now : ℕ) → FollowsWrite g s from was now → IsUnstirred s c was now → Holds s.grid.size c → c ≢ from → IsGood s c
IsGood-unstirred g s from c was now follows still held apart = elim (follows.each c held apart) [
  | inl good ↦ good
  | inr lags ↦
      let is : g_of s c ≡ lags.rhs = key_none_is (g_of s c) lags.rhs (sym still.unqueued ∙ lags.queued) in
      let same = IsRhs-unmoved s.grid s.goal g (g_of s) from c lags.rhs was now follows.written follows.before (λ lt. omega (arith, still.lowered lt))
      (λ lt e. still.raised lt (is ∙ e)) lags.equation in
      record { rhs = lags.rhs; equation = same; queued = lags.queued }
]

-- the g of a cell is the same
pub g_of-same : (old new : Lifelong) (c : Point) → IsSameBut old new → g_of new c ≡ g_of old c
g_of-same old new c same = rw (same.grid, same.g) refl

-- what lags still lags where its key is kept
Lags-kept : (g : Point → ℕ) (old new : Lifelong) (c : Point) → IsSameBut old new → KeepsKey old new c → Lags g old c → Lags g new c
Lags-kept g old new c same kept lags =
    record {
      rhs = lags.rhs;
      equation = rw (same.grid, same.goal) lags.equation;
      queued = kept ∙ lags.queued ∙ ap (λ (n : ℕ). key_for n lags.rhs) (sym (g_of-same old new c same));
    }

-- the update of one cell, or of none
pub Advances-update : (old new : Lifelong) (cell : Option Point) → IsSameBut old new →
    ((c : Point) → cell ≡ Some c → IsGood new c) →
    ((c : Point) → Holds old.grid.size c → IsGood old c → IsGood new c) →
    ((c : Point) → Holds old.grid.size c → (cell ≡ Some c → ⊥) → KeepsKey old new c) → Advances old new
Advances-update old new cell same here keeps others =
    record { same = same; keeps = keeps; others = λ c h. elim (cases_some cell c) [ inl e ↦ inl (here c e) | inr ne ↦ inr (others c h ne) ] }
  where
    cases_some : (cell : Option Point) (c : Point) → (cell ≡ Some c) ⊎ (cell ≡ Some c → ⊥)
    cases_some None c = grind arith
    cases_some (Some a) c = grind (arith, cases_cell a c)

pub IsSameBut-trans : (one two three : Lifelong) → IsSameBut one two → IsSameBut two three → IsSameBut one three
IsSameBut-trans one two three first then =
    record { grid = then.grid ∙ first.grid; goal = then.goal ∙ first.goal; g = then.g ∙ first.g; taken = then.taken ∙ first.taken; total = then.total ∙ first.total }

pub Advances-refl : (s : Lifelong) → Advances s s
Advances-refl s = record { same = record { grid = refl; goal = refl; g = refl; taken = refl; total = refl }; keeps = λ c h good. good; others = λ c h. inr refl }

pub Advances-trans : (one two three : Lifelong) → Advances one two → Advances two three → Advances one three
Advances-trans one two three first then =
    record {
      same = IsSameBut-trans one two three first.same then.same;
      keeps = λ c h good. then.keeps c (rw first.same.grid h) (first.keeps c h good);
      others = λ c h. elim (first.others c h) [
        | inl good ↦ inl (then.keeps c (rw first.same.grid h) good)
        | inr kept ↦ elim (then.others c (rw first.same.grid h)) [ inl good ↦ inl good | inr later ↦ inr (later ∙ kept) ]
      ];
    }

-- what is good or isn't stirred stays so
pub unstirred_later : (old new : Lifelong) (c : Point) (was now : ℕ) → Advances old new → Holds old.grid.size c → IsGood old c ⊎ IsUnstirred old c was now → IsGood new c ⊎ IsUnstirred new c was now
unstirred_later old new c was now on h (inl good) = inl (on.keeps c h good)
unstirred_later old new c was now on h (inr still) = elim (on.others c h) [
  | inl good ↦ inl good
  | inr kept ↦ (let same : g_of new c ≡ g_of old c = g_of-same old new c on.same in
      inr (record { unqueued = kept ∙ still.unqueued; lowered = λ lt. omega (arith, same, still.lowered lt); raised = λ lt e. still.raised lt (sym same ∙ e) }))
]

-- what follows a write goes on
pub Follows-later : (g : Point → ℕ) (old new : Lifelong) (from : Point) (was now : ℕ) → Advances old new → FollowsWrite g old from was now → FollowsWrite g new from was now
Follows-later g old new from was now on f =
    record {
      written = record {
        here = g_of-same old new from on.same ∙ f.written.here;
        elsewhere = λ c h apart. g_of-same old new c on.same ∙ f.written.elsewhere c (before c h) apart;
      };
      before = f.before;
      each = λ c h apart. elim (f.each c (before c h) apart) [
        | inl good ↦ inl (on.keeps c (before c h) good)
        | inr lags ↦ elim (on.others c (before c h)) [ inl good ↦ inl good | inr kept ↦ inr (Lags-kept g old new c on.same kept lags) ]
      ];
    }
  where
    before : (c : Point) → Holds new.grid.size c → Holds old.grid.size c
    before c h = rw (← on.same.grid) h

-- a cell was taken from the queue and its g was written: each other cell lags
pub IsTaking-begun : (old new : Lifelong) (u : Point) (R : Point → ℕ) (value : ℕ) → IsRoomy old → Holds old.grid.size u →
    new.grid ≡ old.grid → new.goal ≡ old.goal → new.g.items ≡ set old.g.items (flag_index old.grid.size u) value → key_at new.queue u ≡ None →
    ((c : Point) → Holds old.grid.size c → c ≢ u → KeepsKey old new c) →
    ((c : Point) → Holds old.grid.size c → IsRhs old.grid old.goal (g_of old) c (R c)) →
    ((c : Point) → Holds old.grid.size c → key_at old.queue c ≡ key_for (g_of old c) (R c)) →
    (value < g_of old u → R u ≡ value) → IsTaking (g_of old) new u (g_of old u)
IsTaking-begun old new u R value roomy held same goal wrote out kept equation queued low =
    record {
      follows = record {
        written = record { here = refl; elsewhere = λ c h apart. w.elsewhere c (rw (← same) h) apart };
        before = refl;
        each = λ c h apart. inr (record {
          rhs = R c;
          equation = rw (same, goal) (equation c (rw (← same) h));
          queued = kept c (rw (← same) h) apart ∙ queued c (rw (← same) h) ∙ ap (λ (n : ℕ). key_for n (R c)) (sym (w.elsewhere c (rw (← same) h) apart));
        });
      };
      lowered = λ lt.
          let is : R u ≡ value = low (omega (arith, lt, w.here)) in
          record {
            rhs = value;
            equation = on_new (rw (← is) (IsRhs-apart old.grid old.goal (g_of old) (g_of new) u u (R u) value w (λ adj. omega (arith, adj)) (equation u held)));
            queued = out ∙ key_none (g_of new u) value w.here;
          };
    }
  where
    w : IsWrite old.grid (g_of old) (g_of new) u value
    w = subst (λ (t : Chart). IsWrite old.grid (g_of old) (mark_at t.size new.g.items) u value) (sym same)
        (subst (λ (xs : List ℕ). IsWrite old.grid (g_of old) (mark_at old.grid.size xs) u value) (sym wrote) (IsWrite-set old.grid old.g.items u value
        roomy.one_g_each held))

    on_new : IsRhs old.grid old.goal (g_of new) u value → IsRhs new.grid new.goal (g_of new) u value
    on_new a = subst (λ (t : Chart). IsRhs t new.goal (g_of new) u value) (sym same) (subst (λ (p : Point). IsRhs old.grid p (g_of new) u value) (sym goal) a)

-- a cell that is neither the one that was written nor next to it is good
pub IsGood-apart : (g : Point → ℕ) (s : Lifelong) (from c : Point) (was now : ℕ) → FollowsWrite g s from was now → Holds s.grid.size c → c ≢ from → (IsAdjacent from c → ⊥) → IsGood s c
IsGood-apart g s from c was now follows held ne apart = elim (follows.each c held ne) [
  | inl good ↦ good
  | inr lags ↦ record {
    rhs = lags.rhs;
    equation = IsRhs-apart s.grid s.goal g (g_of s) from c lags.rhs now follows.written apart lags.equation;
    queued = lags.queued;
  }
]
