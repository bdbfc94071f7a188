use Rattle.std.proofs.lemmas.Bool.Decides.{nat_tests}
use Rattle.std.specs.Prelude.{slice_index, slice_index_or, min}
use Rattle.std.proofs.Common.{◌+◌, ◌*◌, ◌≡◌, ◌≢◌, ℕ, zero, suc, ◌<◌, ◌≤◌, ◌⊎◌, List, [], ◌∷◌, length, Option, Some, None, refl, sym, ap, subst, ◌∙◌, inl, inr, arith, get_or-set_same, get_or-set_other}
use Rattle.std.proofs.Math.ListN.{set}
use Rattle.std.proofs.lemmas.Bool.{cases_lt}
use Rattle.grid_cells.specs.Cell.{Point, IsAdjacent}
use Rattle.goal_fields.specs.Marks.{far, mark_at}
use Rattle.grid_cells.specs.Size.{Holds}
use Rattle.cell_queue.specs.Queue.{area, key_at}
use Rattle.grid_cells.specs.Grid.{flag_index, Chart, IsOpen}
use Rattle.goal_fields.specs.Repair.{IsRhs, IsRepairing, IsTaken, IsWrite, change, key_for}
use Rattle.goal_fields.specs.declared.lifelong.Lifelong.{Lifelong}
use Rattle.goal_fields.specs.Lifelong.{g_of, count_over, IsRoomy, IsGood, IsInRepair}
use Rattle.cell_queue.proofs.Indexes.{index_below, same_place}
use Rattle.goal_fields.proofs.Neighbours.{IsAdjacent-sym, cases_held}
use Rattle.goal_fields.proofs.RepairLemmas.{IsRepairing-over, IsRepairing-under}
use Rattle.goal_fields.proofs.RepairEnds.{change-over, change-under, change-le, change-same}

pub least_of : (a b c e r : ℕ) → r ≡ min (min (min a b) c) e → (r ≡ a) ⊎ ((r ≡ b) ⊎ ((r ≡ c) ⊎ (r ≡ e)))
least_of a b c e r q = grind arith

-- the change count after one g has changed
pub count_over-set : (d g : List ℕ) (n v : ℕ) → n < length d → n < length g → count_over d (set g n v) + change (slice_index d n) (slice_index g n) ≡ count_over d g + change (slice_index d n) v
count_over-set [] g n v h k = absurd (omega arith)
count_over-set (x ∷ d) [] n v h k = absurd (omega arith)
count_over-set (x ∷ d) (y ∷ g) zero v h k = omega arith
count_over-set (x ∷ d) (y ∷ g) (suc n) v h k = omega (arith, count_over-set d g n v (omega arith) (omega arith))

pub count_over-same : (d : List ℕ) → count_over d d ≡ 0
count_over-same [] = refl
count_over-same (x ∷ d) = omega (arith, change-same x, count_over-same d)

pub count_over-le : (d g : List ℕ) → count_over d g ≤ 2 * length d
count_over-le [] g = omega arith
count_over-le (x ∷ d) [] = omega arith
count_over-le (x ∷ d) (y ∷ g) = omega (arith, change-le x y, count_over-le d g)

-- what a key of the queue says of g and rhs
pub record IsKey (g r key : ℕ) : Type 0 where
  pub differ : g ≢ r
  pub low : (key ≤ g) × (key ≤ r)
  pub which : (r < g → key ≡ r) × (g < r → key ≡ g)

pub IsKey-of : (g r key : ℕ) → key_for g r ≡ Some key → IsKey g r key
IsKey-of g r key e = record { differ = grind (arith, nat_tests); low = grind (arith, nat_tests); which = grind (arith, nat_tests) }

-- a cell that is neither the one whose g has changed nor next to it keeps its equation
pub IsRhs-apart : (grid : Chart) (goal : Point) (g g' : Point → ℕ) (u c : Point) (r value : ℕ) → IsWrite grid g g' u value → (IsAdjacent u c → ⊥) → IsRhs grid goal g c r → IsRhs grid goal g' c r
IsRhs-apart grid goal g g' u c r value w apart a =
    record {
      bounded = a.bounded;
      closed = a.closed;
      at_goal = a.at_goal;
      upper = λ o ne n adj on. grind (arith, a.upper o ne n adj on, stays n adj on);
      lower = λ o ne lt. (let (n, adj, on, e) = a.lower o ne lt in (n, adj, on, e ∙ ap (λ (m : ℕ). m + 1) (sym (stays n adj on))));
    }
  where
    stays : (n : Point) → IsAdjacent c n → IsOpen grid n → g' n ≡ g n
    stays n adj on = w.elsewhere n on.0 (λ e. apart (subst (λ (v : Point). IsAdjacent v c) e (IsAdjacent-sym c n adj)))

-- a write into the list of g
pub IsWrite-set : (grid : Chart) (g : List ℕ) (u : Point) (value : ℕ) → length g ≡ area grid.size → Holds grid.size u →
    IsWrite grid (mark_at grid.size g) (mark_at grid.size (set g (flag_index grid.size u) value)) u value
IsWrite-set grid g u value l h =
    record {
      here = get_or-set_same g (flag_index grid.size u) value 0 (omega (arith, index_below grid.size u h));
      elsewhere = λ c hc ne. get_or-set_other g (flag_index grid.size u) (flag_index grid.size c) value 0 (λ e. ne (same_place grid.size c u hc h e));
    }

-- one taking: the invariants stay, the key is the new floor, and the count goes up by one
pub record IsStep (grid : Chart) (goal : Point) (d g' : List ℕ) (R' : Point → ℕ) (key count count' : ℕ) : Type 0 where
  pub repairing : IsRepairing grid goal (mark_at grid.size d) (mark_at grid.size g') R' key
  pub counted : count' ≡ count + 1

pub IsStep-take : (grid : Chart) (goal : Point) (d g g' : List ℕ) (R R' : Point → ℕ) (keys : List (Option ℕ)) (floor key value : ℕ) (u : Point) →
    length d ≡ area grid.size → length g ≡ area grid.size →
    IsRepairing grid goal (mark_at grid.size d) (mark_at grid.size g) R floor →
    ((c : Point) → Holds grid.size c → slice_index_or keys (flag_index grid.size c) None ≡ key_for (mark_at grid.size g c) (R c)) →
    Holds grid.size u → slice_index_or keys (flag_index grid.size u) None ≡ Some key →
    ((c : Point) (other : ℕ) → Holds grid.size c → slice_index_or keys (flag_index grid.size c) None ≡ Some other → key ≤ other) →
    g' ≡ set g (flag_index grid.size u) value →
    ((key < mark_at grid.size g u) × (value ≡ key)) ⊎ ((mark_at grid.size g u ≤ key) × (value ≡ far)) →
    ((c : Point) → Holds grid.size c → IsRhs grid goal (mark_at grid.size g') c (R' c)) →
    IsStep grid goal d g' R' key (count_over d g) (count_over d g')
IsStep-take grid goal d g g' R R' keys floor key value u ld lg s queued held found least is case eq = elim (cases_lt (R u) (G u)) [
  | inl over ↦
      let one = change-over (mark_at grid.size d u) (G u) (R u) (s.given u held) (s.bounded u held) over (λ below ne. (s.settled u held below ne).0) (λ top
      below. (s.raised u held top below).1) in
      let is_key : key ≡ R u = k.which.0 over in
      let is_value : value ≡ R u = grind arith in
      let step = IsRepairing-over grid goal (mark_at grid.size d) G (mark_at grid.size g') R R' floor u s (taken (R u) is_key) (omega arith) over (wrote (R
      u) is_value) eq in
      record { repairing = rw is_key step; counted = omega (arith, sums, one, ap (change (mark_at grid.size d u)) is_value, ap (count_over d) is) }
  | inr le ↦
      let under : G u < R u = omega (arith, k.differ) in
      let is_key : key ≡ G u = k.which.1 under in
      let is_value : value ≡ far = grind arith in
      let one : change (mark_at grid.size d u) far ≡ change (mark_at grid.size d u) (G u) + 1 =
      change-under (mark_at grid.size d u) (G u) (grind (arith, s.settled u held, (s.equation u held).bounded))
      (omega (arith, (s.equation u held).bounded)) in
      let step = IsRepairing-under grid goal (mark_at grid.size d) G (mark_at grid.size g') R R' floor u s (taken (G u) is_key) (omega arith) under (wrote
      far is_value) eq in
      record { repairing = rw is_key step; counted = omega (arith, sums, one, ap (change (mark_at grid.size d u)) is_value, ap (count_over d) is) }
]
  where
    G : Point → ℕ
    G c = mark_at grid.size g c

    k : IsKey (G u) (R u) key
    k = IsKey-of (G u) (R u) key (sym (queued u held) ∙ found)

    up : floor ≤ key
    up = elim (cases_lt (R u) (G u)) [
      | inl over ↦ omega (arith, k.which.0 over, s.low u held k.differ)
      | inr le ↦ omega (arith, k.which.1, k.differ, s.low u held k.differ)
    ]

    taken : (x : ℕ) → key ≡ x → IsTaken grid G R u x
    taken x e = record { held = held; least = λ c h ne. grind (arith, nat_tests, queued c h, least c (G c) h, least c (R c) h) }

    wrote : (x : ℕ) → value ≡ x → IsWrite grid G (mark_at grid.size g') u x
    wrote x e = rw is (subst (IsWrite grid G (mark_at grid.size (set g (flag_index grid.size u) value)) u) e (IsWrite-set grid g u value lg held))

    sums : count_over d (set g (flag_index grid.size u) value) + change (mark_at grid.size d u) (G u) ≡ count_over d g + change (mark_at grid.size d u) value
    sums = count_over-set d g (flag_index grid.size u) value (omega (arith, index_below grid.size u held)) (omega (arith, index_below grid.size u held))

-- the rhs of each cell where all are good
rhs_by : (s : Lifelong) → ((c : Point) → Holds s.grid.size c → IsGood s c) → (c : Point) → (Holds s.grid.size c ⊎ (Holds s.grid.size c → ⊥)) → ℕ
rhs_by s good c (inl h) = (good c h).rhs
rhs_by s good c (inr _) = 0

rhs_by-good : (s : Lifelong) (good : (c : Point) → Holds s.grid.size c → IsGood s c) (c : Point) (held : Holds s.grid.size c ⊎ (Holds s.grid.size c → ⊥)) → Holds s.grid.size c →
    IsRhs s.grid s.goal (g_of s) c (rhs_by s good c held) × (key_at s.queue c ≡ key_for (g_of s c) (rhs_by s good c held))
unfolding rhs_by
rhs_by-good s good c (inl h) _ = ((good c h).equation, (good c h).queued)
rhs_by-good s good c (inr out) h = absurd (out h)

pub rhs_in : (s : Lifelong) → ((c : Point) → Holds s.grid.size c → IsGood s c) → Point → ℕ
rhs_in s good c = rhs_by s good c (cases_held s.grid.size c)

pub rhs_in-good : (s : Lifelong) (good : (c : Point) → Holds s.grid.size c → IsGood s c) (c : Point) → Holds s.grid.size c →
    IsRhs s.grid s.goal (g_of s) c (rhs_in s good c) × (key_at s.queue c ≡ key_for (g_of s c) (rhs_in s good c))
unfolding rhs_in
rhs_in-good s good c h = rhs_by-good s good c (cases_held s.grid.size c) h

-- what is right after a step, said over the map of before
pub IsRhs-good : (old new : Lifelong) → new.grid ≡ old.grid → new.goal ≡ old.goal → (c : Point) (r : ℕ) → IsRhs new.grid new.goal (g_of new) c r →
    IsRhs old.grid old.goal (mark_at old.grid.size new.g.items) c r
IsRhs-good old new same eg c r equation = rw (← same, ← eg) equation

pub IsInRepair-step : (d : List ℕ) (old new : Lifelong) (key : ℕ) → new.grid ≡ old.grid → new.goal ≡ old.goal → IsRoomy new → length d ≡ area old.grid.size →
    (good : (c : Point) → Holds new.grid.size c → IsGood new c) →
    IsRepairing old.grid old.goal (mark_at old.grid.size d) (mark_at old.grid.size new.g.items) (rhs_in new good) key →
    new.queue.taken ≡ count_over d new.g.items → IsInRepair d new key
IsInRepair-step d old new key same eg roomy ld good inv count =
    record {
      roomy = roomy;
      one_each = rw same ld;
      rhs = rhs_in new good;
      repairing =
          (subst (λ (t : Chart). IsRepairing t new.goal (mark_at t.size d) (mark_at t.size new.g.items) (rhs_in new good) key) (sym same)
          (subst (λ (v : Point). IsRepairing old.grid v (mark_at old.grid.size d) (mark_at old.grid.size new.g.items) (rhs_in new good) key) (sym eg) inv));
      queued = λ c h. (rhs_in-good new good c h).1;
      counted = count;
    }
