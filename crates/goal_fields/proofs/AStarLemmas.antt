-- What the steps of A* keep, and what it has found at its end.
use Rattle.std.proofs.lemmas.Bool.Decides.{nat_tests}
use Rattle.std.proofs.lemmas.Bool.{cases_lt}
use Rattle.std.specs.Prelude.{sum_by, true, ◌==◌, ◌&&◌}
use Rattle.std.specs.Option.{IfSome}
use Rattle.std.specs.List.{All, Contains, slice_get}
use Rattle.std.proofs.Common.{◌≡◌, ℕ, zero, suc, ◌+◌, ◌-◌, ◌*◌, ◌<◌, ◌≤◌, ◌⊎◌, List, [], ◌∷◌, ◌++◌, length, Option, Some, None, ap, ◌∙◌, refl, sym, inl, inr, arith, get_or, get_or-set_same, subst}
use Rattle.std.proofs.Math.ListN.{set, length-set}
use Rattle.std.proofs.lemmas.List.Elements.{All-push, All-pop, All-contains, Contains-push, Contains-push_cases, Contains-append_left, Contains-get_or}
use Rattle.std.proofs.lemmas.List.Sums.{sum_by-set, sum_by-cons}
use Rattle.grid_cells.specs.Cell.{Point, IsAdjacent, steps_between}
use Rattle.grid_cells.specs.Size.{Extent, Holds, neighbours_of}
use Rattle.grid_cells.specs.Grid.{Chart, IsOpen, flag_index}
use Rattle.grid_cells.specs.Walks.{Walk, IsDistance}
use Rattle.cell_queue.specs.Queue.{area}
use Rattle.cell_queue.proofs.Indexes.{index_below, same_coordinates}
use Rattle.goal_fields.specs.Marks.{mark_at}
use Rattle.goal_fields.specs.AStar.{HasWalk, IsMetWithin, IsStamped, IsSeeking, IsMetFrom, GathersCells, left_undone}
use Rattle.goal_fields.specs.declared.frontier.Ends.{Ends}
use Rattle.goal_fields.specs.declared.frontier.Frontier.{Frontier}
use Rattle.goal_fields.proofs.Neighbours.{IsAdjacent-sym, Walk-open, beside_cases, up_of, left_of, right_of, down_of, up_of-adjacent, left_of-adjacent, right_of-adjacent, down_of-adjacent, neighbour_cases}
use Rattle.goal_fields.proofs.SearchLemmas.{mark_at-set}

-- a step comes one nearer to a cell, or goes one away from it
pub steps_between-beside : (a b t : Point) → IsAdjacent a b → (steps_between b t + 1 ≡ steps_between a t) ⊎ (steps_between b t ≡ steps_between a t + 1)
steps_between-beside a b t near = elim (beside_cases a b near) [
  | inl e ↦ grind arith
  | inr (inl e) ↦ grind arith
  | inr (inr (inl e)) ↦ grind arith
  | inr (inr (inr e)) ↦ grind arith
]

-- a walk through a cell to one beside it has no fewer steps away
pub most_beside : (a b t : Point) → IsAdjacent a b → (away most : ℕ) → 2 * most + steps_between a t ≡ 2 * away + steps_between b t + 1 → away ≤ most
most_beside a b t near away most e = elim (steps_between-beside a b t near) [ inl h ↦ omega (arith, e, h) | inr h ↦ omega (arith, e, h) ]

-- a walk has no fewer steps than lie between its ends
pub Walk-long : (grid : Chart) (goal : Point) (m : ℕ) (c : Point) → Walk grid m c goal → steps_between c goal ≤ m
Walk-long grid goal zero c w = rw w.1 (omega arith)
Walk-long grid goal (suc m) c (o, (next, adj, rest)) =
    let ih : steps_between next goal ≤ m = Walk-long grid goal m next rest in
    elim (steps_between-beside c next goal adj) [ inl e ↦ omega arith | inr e ↦ omega arith ]

-- a walk ends at an open cell
pub Walk-ends_open : (grid : Chart) (goal : Point) (m : ℕ) (c : Point) → Walk grid m c goal → IsOpen grid goal
Walk-ends_open grid goal zero c w = subst (IsOpen grid) w.1 w.0
Walk-ends_open grid goal (suc m) c (o, (next, adj, rest)) = Walk-ends_open grid goal m next rest

-- a walk through the front to an open cell beside it
pub walk_nearer : (grid : Chart) (ends : Ends) (away : ℕ) (front cell : Point) → HasWalk grid ends away front → IsAdjacent front cell → IsOpen grid cell →
    steps_between cell ends.start + 1 ≡ steps_between front ends.start → HasWalk grid ends away cell
walk_nearer grid ends away front cell w adj open_cell e =
    record { steps = suc w.steps; walk = (open_cell, (front, IsAdjacent-sym front cell adj, w.walk)); length_is = omega (arith, w.length_is) }

pub walk_farther : (grid : Chart) (ends : Ends) (away : ℕ) (front cell : Point) → HasWalk grid ends away front → IsAdjacent front cell → IsOpen grid cell →
    steps_between cell ends.start ≡ steps_between front ends.start + 1 → HasWalk grid ends (away + 1) cell
walk_farther grid ends away front cell w adj open_cell e =
    record { steps = suc w.steps; walk = (open_cell, (front, IsAdjacent-sym front cell adj, w.walk)); length_is = omega (arith, w.length_is) }

-- what is met stays so where more cells wait
pub IsMet-gather : (size : Extent) (stamps : List ℕ) (base away : ℕ) (now next now' next' : List Point) (most : ℕ) (cell : Point) →
    (Contains now cell → Contains now' cell) → (Contains next cell → Contains next' cell) →
    IsMetWithin size stamps base away now next most cell → IsMetWithin size stamps base away now' next' most cell
IsMet-gather size stamps base away now next now' next' most cell f g met = elim met [
  | inl done ↦ inl done
  | inr (inl waits) ↦ inr (inl (waits.0, f waits.1))
  | inr (inr waits) ↦ inr (inr (waits.0, g waits.1))
]

pub IsSeeking-gather : (grid : Chart) (ends : Ends) (stamps : List ℕ) (base away : ℕ) (now next now' next' : List Point) →
    ((cell : Point) → Contains now cell → Contains now' cell) → ((cell : Point) → Contains next cell → Contains next' cell) →
    All (HasWalk grid ends away) now' → All (HasWalk grid ends (away + 1)) next' →
    IsSeeking grid ends stamps base away now next → IsSeeking grid ends stamps base away now' next'
IsSeeking-gather grid ends stamps base away now next now' next' f g walks walks' s = record {
  stamped = s.stamped;
  start_held = s.start_held;
  goal_held = s.goal_held;
  start_waits = s.start_waits;
  walks_now = walks;
  walks_next = walks';
  begun = λ o. IsMet-gather grid.size stamps base away now next now' next' 0 ends.goal (f ends.goal) (g ends.goal) (s.begun o);
  covered = λ cell done held is beside most adj o e. IsMet-gather grid.size stamps base away now next now' next' most beside (f beside) (g beside) (s.covered cell done held is beside most adj o e);
}

-- one more element at the end, before one that is held back
pub Contains-before : (xs : List Point) (x y : Point) (cell : Point) → Contains (xs ++ y ∷ []) cell → Contains ((xs ++ x ∷ []) ++ y ∷ []) cell
Contains-before xs x y cell within = elim (Contains-push_cases xs y cell within) [
  | inl in_xs ↦ Contains-append_left (xs ++ x ∷ []) (y ∷ []) cell (Contains-append_left xs (x ∷ []) cell in_xs)
  | inr e ↦ subst (λ (v : Point). Contains ((xs ++ x ∷ []) ++ y ∷ []) v) e (Contains-push (xs ++ x ∷ []) y)
]

-- all before the last
pub All-front : {X : Type 0} (P : X → Type 0) (xs : List X) (x : X) → All P (xs ++ x ∷ []) → All P xs
All-front P xs x all = (All-pop P (xs ++ x ∷ []) xs (Some x) refl all).0

pub IsSeeking-now : (grid : Chart) (ends : Ends) (stamps : List ℕ) (base away : ℕ) (now next : List Point) (front cell : Point) →
    IsSeeking grid ends stamps base away (now ++ front ∷ []) next → HasWalk grid ends away cell → IsSeeking grid ends stamps base away ((now ++ cell ∷ []) ++ front ∷ []) next
IsSeeking-now grid ends stamps base away now next front cell s walk =
    let P : Point → Type 0 = HasWalk grid ends away in
    let of_front : P front = All-contains P (now ++ front ∷ []) front s.walks_now (Contains-push now front) in
    IsSeeking-gather grid ends stamps base away (now ++ front ∷ []) next ((now ++ cell ∷ []) ++ front ∷ []) next (Contains-before now cell front) (λ x h. h)
    (All-push P (now ++ cell ∷ []) front (All-push P now cell (All-front P now front s.walks_now) walk) of_front) s.walks_next s

pub IsSeeking-next : (grid : Chart) (ends : Ends) (stamps : List ℕ) (base away : ℕ) (now next : List Point) (cell : Point) →
    IsSeeking grid ends stamps base away now next → HasWalk grid ends (away + 1) cell → IsSeeking grid ends stamps base away now (next ++ cell ∷ [])
IsSeeking-next grid ends stamps base away now next cell s walk =
    IsSeeking-gather grid ends stamps base away now next now (next ++ cell ∷ []) (λ x h. h) (λ x h. Contains-append_left next (cell ∷ []) x h)
    s.walks_now (All-push (HasWalk grid ends (away + 1)) next cell s.walks_next walk) s

-- a front that is done is passed over
pub IsSeeking-pass : (grid : Chart) (ends : Ends) (stamps : List ℕ) (base away : ℕ) (now next : List Point) (front : Point) → Holds grid.size front →
    base ≤ mark_at grid.size stamps front → IsSeeking grid ends stamps base away (now ++ front ∷ []) next → IsSeeking grid ends stamps base away now next
IsSeeking-pass grid ends stamps base away now next front held done s =
    let met : (most : ℕ) (cell : Point) → IsMetWithin grid.size stamps base away (now ++ front ∷ []) next most cell → IsMetWithin grid.size stamps base away now next most cell =
    (λ most cell m. elim m [
      | inl so ↦ inl so
      | inr (inl waits) ↦ elim (Contains-push_cases now front cell waits.1) [
        | inl here ↦ inr (inl (waits.0, here))
        | inr e ↦ inl (subst (λ (v : Point). (base ≤ mark_at grid.size stamps v) × (mark_at grid.size stamps v ≤ base + most)) e (done, omega (arith, s.stamped.bounded front held, waits.0)))
      ]
      | inr (inr waits) ↦ inr (inr waits)
    ]) in
    record {
      stamped = s.stamped;
      start_held = s.start_held;
      goal_held = s.goal_held;
      start_waits = s.start_waits;
      walks_now = All-front (HasWalk grid ends away) now front s.walks_now;
      walks_next = s.walks_next;
      begun = λ o. met 0 ends.goal (s.begun o);
      covered = λ cell k h is beside most adj o e. met most beside (s.covered cell k h is beside most adj o e);
    }

-- a front beside which all is met is done
pub IsSeeking-done : (grid : Chart) (ends : Ends) (stamps : List ℕ) (base away : ℕ) (now next : List Point) (front : Point) → Holds grid.size front →
    mark_at grid.size stamps front < base → (front ≡ ends.start → ⊥) → IsSeeking grid ends stamps base away (now ++ front ∷ []) next →
    ((beside : Point) → IsAdjacent front beside → IsOpen grid beside → (most : ℕ) → 2 * most + steps_between front ends.start ≡ 2 * away + steps_between beside ends.start + 1 → IsMetWithin grid.size stamps base away now next most beside) →
    IsSeeking grid ends (set stamps (flag_index grid.size front) (base + away)) base away now next
IsSeeking-done grid ends stamps base away now next front held undone_front other s near =
    let N : List ℕ = set stamps (flag_index grid.size front) (base + away) in
    let one = s.stamped.one_stamp_each in
    let here : mark_at grid.size N front ≡ base + away = get_or-set_same stamps (flag_index grid.size front) (base + away) 0 (omega (arith, index_below grid.size front held, one)) in
    let met : (most : ℕ) (cell : Point) → Holds grid.size cell → IsMetWithin grid.size stamps base away (now ++ front ∷ []) next most cell → IsMetWithin grid.size N base away now next most cell =
    (λ most cell h m. elim m [
      | inl so ↦ elim (mark_at-set grid.size stamps front cell (base + away) one held h) [
        | inl e ↦ absurd (omega (arith, so.0, undone_front, subst (λ (v : Point). mark_at grid.size stamps cell ≡ mark_at grid.size stamps v) e.0 refl))
        | inr e ↦ inl (omega (arith, e, so.0), omega (arith, e, so.1))
      ]
      | inr (inl waits) ↦ elim (Contains-push_cases now front cell waits.1) [
        | inl within ↦ inr (inl (waits.0, within))
        | inr e ↦ inl (subst (λ (v : Point). (base ≤ mark_at grid.size N v) × (mark_at grid.size N v ≤ base + most)) e (omega (arith, here), omega (arith, here, waits.0)))
      ]
      | inr (inr waits) ↦ inr (inr waits)
    ]) in
    let more : (most : ℕ) (cell : Point) → IsMetWithin grid.size stamps base away now next most cell → IsMetWithin grid.size stamps base away (now ++ front ∷ []) next most cell =
    (λ most cell m. IsMet-gather grid.size stamps base away now next (now ++ front ∷ []) next most cell (Contains-append_left now (front ∷ []) cell) (λ x. x) m) in
    record {
      stamped = record {
        sized = s.stamped.sized;
        whole = s.stamped.whole;
        one_stamp_each = rw (length-set stamps (flag_index grid.size front) (base + away)) one;
        bounded = λ cell h. elim (mark_at-set grid.size stamps front cell (base + away) one held h) [
          | inl e ↦ omega (arith, e.1)
          | inr e ↦ omega (arith, e, s.stamped.bounded cell h)
        ];
      };
      start_held = s.start_held;
      goal_held = s.goal_held;
      start_waits = elim (mark_at-set grid.size stamps front ends.start (base + away) one held s.start_held) [
        | inl e ↦ absurd (other (sym e.0))
        | inr e ↦ omega (arith, e, s.start_waits)
      ];
      walks_now = All-front (HasWalk grid ends away) now front s.walks_now;
      walks_next = s.walks_next;
      begun = λ o. met 0 ends.goal s.goal_held (s.begun o);
      covered = λ cell k h is beside most adj o e.
          elim (mark_at-set grid.size stamps front cell (base + away) one held h) [
            | inl at ↦
                let same : k ≡ away = omega (arith, at.1, is) in
                let adj' : IsAdjacent front beside = subst (λ (v : Point). IsAdjacent v beside) at.0 adj in
                let e' : 2 * most + steps_between front ends.start ≡ 2 * away + steps_between beside ends.start + 1 =
                subst (λ (v : Point). 2 * most + steps_between v ends.start ≡ 2 * away + steps_between beside ends.start + 1) at.0 (omega (arith, e, same)) in
                met most beside o.0 (more most beside (near beside adj' o most e'))
            | inr at ↦ met most beside o.0 (s.covered cell k h (sym at ∙ is) beside most adj o e)
          ];
    }

-- where no cell waits for walks with as many steps away, it is the turn of those with one more
pub IsSeeking-rise : (grid : Chart) (ends : Ends) (stamps : List ℕ) (base away : ℕ) (next : List Point) →
    IsSeeking grid ends stamps base away [] next → IsSeeking grid ends stamps base (away + 1) next []
IsSeeking-rise grid ends stamps base away next s =
    let met : (most : ℕ) (cell : Point) → IsMetWithin grid.size stamps base away [] next most cell → IsMetWithin grid.size stamps base (away + 1) next [] most cell =
    (λ most cell m. elim m [
      | inl so ↦ inl so
      | inr (inl waits) ↦ absurd (omega (arith, waits.1.1))
      | inr (inr waits) ↦ inr (inl waits)
    ]) in
    record {
      stamped = record { sized = s.stamped.sized; whole = s.stamped.whole; one_stamp_each = s.stamped.one_stamp_each; bounded = λ cell h. omega (arith, s.stamped.bounded cell h) };
      start_held = s.start_held;
      goal_held = s.goal_held;
      start_waits = s.start_waits;
      walks_now = s.walks_next;
      walks_next = λ k d h. absurd (omega (arith, h));
      begun = λ o. met 0 ends.goal (s.begun o);
      covered = λ cell k h is beside most adj o e. met most beside (s.covered cell k h is beside most adj o e);
    }

-- a cell from which a walk to the goal, and on to the start where nothing is closed, has fewer steps away is done
pub Walk-done : (grid : Chart) (ends : Ends) (stamps : List ℕ) (base away : ℕ) (now next : List Point) → IsSeeking grid ends stamps base away now next →
    (m : ℕ) (c : Point) → Walk grid m c ends.goal → m + steps_between c ends.start < steps_between ends.goal ends.start + 2 * away →
    (k : ℕ) × (mark_at grid.size stamps c ≡ base + k) × (steps_between ends.goal ends.start + 2 * k ≤ m + steps_between c ends.start)
Walk-done grid ends stamps base away now next s zero c w short =
    let e : c ≡ ends.goal = w.1 in
    let here : mark_at grid.size stamps ends.goal ≡ base = elim (s.begun (subst (IsOpen grid) e w.0)) [
      | inl done ↦ omega (arith, done.0, done.1)
      | inr (inl waits) ↦ absurd (omega (arith, waits.0, short, subst (λ (v : Point). steps_between c ends.start ≡ steps_between v ends.start) e refl))
      | inr (inr waits) ↦ absurd (omega (arith, waits.0))
    ] in
    (0, subst (λ (v : Point). mark_at grid.size stamps v ≡ base + 0) (sym e) (omega (arith, here)), omega (arith, subst (λ (v : Point). steps_between c ends.start ≡ steps_between v ends.start) e refl))
Walk-done grid ends stamps base away now next s (suc m) c (o, (by, adj, rest)) short =
    let back : IsAdjacent by c = IsAdjacent-sym c by adj in
    elim (steps_between-beside by c ends.start back) [
      | inl nearer ↦
          let (k, is, le) = Walk-done grid ends stamps base away now next s m by rest (omega arith) in
          elim (s.covered by k ((Walk-open grid ends.goal m by rest).0) is c k back o (omega arith)) [
            | inl done ↦ (mark_at grid.size stamps c - base, omega (arith, done.0), omega (arith, done.0, done.1, le))
            | inr (inl waits) ↦ absurd (omega (arith, waits.0, le, short))
            | inr (inr waits) ↦ absurd (omega (arith, waits.0, le, short))
          ]
      | inr farther ↦
          let (k, is, le) = Walk-done grid ends stamps base away now next s m by rest (omega arith) in
          elim (s.covered by k ((Walk-open grid ends.goal m by rest).0) is c (k + 1) back o (omega arith)) [
            | inl done ↦ (mark_at grid.size stamps c - base, omega (arith, done.0), omega (arith, done.0, done.1, le))
            | inr (inl waits) ↦ absurd (omega (arith, waits.0, le, short))
            | inr (inr waits) ↦ absurd (omega (arith, waits.0, le, short))
          ]
    ]

-- where no cell waits, each cell with a walk to the goal is done
pub Walk-all_done : (grid : Chart) (ends : Ends) (stamps : List ℕ) (base away : ℕ) → IsSeeking grid ends stamps base away [] [] →
    (m : ℕ) (c : Point) → Walk grid m c ends.goal → (k : ℕ) × (mark_at grid.size stamps c ≡ base + k)
Walk-all_done grid ends stamps base away s zero c w =
    let here : (k : ℕ) × (mark_at grid.size stamps ends.goal ≡ base + k) = elim (s.begun (subst (IsOpen grid) w.1 w.0)) [
      | inl done ↦ (0, omega (arith, done.0, done.1))
      | inr (inl waits) ↦ absurd (omega (arith, waits.1.1))
      | inr (inr waits) ↦ absurd (omega (arith, waits.1.1))
    ] in
    subst (λ (v : Point). (k : ℕ) × (mark_at grid.size stamps v ≡ base + k)) (sym w.1) here
Walk-all_done grid ends stamps base away s (suc m) c (o, (by, adj, rest)) =
    let back : IsAdjacent by c = IsAdjacent-sym c by adj in
    let (k, is) = Walk-all_done grid ends stamps base away s m by rest in
    let met : (most : ℕ) → IsMetWithin grid.size stamps base away [] [] most c → (k : ℕ) × (mark_at grid.size stamps c ≡ base + k) =
    (λ most m. elim m [
      | inl done ↦ (mark_at grid.size stamps c - base, omega (arith, done.0))
      | inr (inl waits) ↦ absurd (omega (arith, waits.1.1))
      | inr (inr waits) ↦ absurd (omega (arith, waits.1.1))
    ]) in
    elim (steps_between-beside by c ends.start back) [
      | inl nearer ↦ met k (s.covered by k ((Walk-open grid ends.goal m by rest).0) is c k back o (omega arith))
      | inr farther ↦ met (k + 1) (s.covered by k ((Walk-open grid ends.goal m by rest).0) is c (k + 1) back o (omega arith))
    ]

-- a search that comes to the start has its distance
pub IsDistance-come : (grid : Chart) (ends : Ends) (stamps : List ℕ) (base away : ℕ) (now next : List Point) (found : ℕ) →
    IsSeeking grid ends stamps base away (now ++ ends.start ∷ []) next → found ≡ steps_between ends.goal ends.start + 2 * away → IsDistance grid ends.start ends.goal (Some found)
IsDistance-come grid ends stamps base away now next found s is =
    let walk : HasWalk grid ends away ends.start = All-contains (HasWalk grid ends away) (now ++ ends.start ∷ []) ends.start s.walks_now (Contains-push now ends.start) in
    let long : walk.steps ≡ found = omega (arith, walk.length_is, is) in (
      subst (λ (n : ℕ). Walk grid n ends.start ends.goal) long walk.walk,
      λ m w. elim (cases_lt m found) [
        | inl less ↦ (let (k, at, le) = Walk-done grid ends stamps base away (now ++ ends.start ∷ []) next s m ends.start w (omega arith) in absurd (omega (arith, at, s.start_waits)))
        | inr more ↦ more
      ],
    )

-- a search with nothing left has found that there is no walk
pub IsDistance-none : (grid : Chart) (ends : Ends) (stamps : List ℕ) (base away : ℕ) → IsSeeking grid ends stamps base away [] [] → IsDistance grid ends.start ends.goal None
IsDistance-none grid ends stamps base away s m w =
    let (k, at) = Walk-all_done grid ends stamps base away s m ends.start w in
    absurd (omega (arith, at, s.start_waits))

-- the front has a walk
pub HasWalk-front : (grid : Chart) (ends : Ends) (stamps : List ℕ) (base away : ℕ) (now next : List Point) (front : Point) →
    IsSeeking grid ends stamps base away (now ++ front ∷ []) next → HasWalk grid ends away front
HasWalk-front grid ends stamps base away now next front s = All-contains (HasWalk grid ends away) (now ++ front ∷ []) front s.walks_now (Contains-push now front)

-- the front is on the map
pub Holds-front : (grid : Chart) (ends : Ends) (stamps : List ℕ) (base away : ℕ) (now next : List Point) (front : Point) →
    IsSeeking grid ends stamps base away (now ++ front ∷ []) next → Holds grid.size front
Holds-front grid ends stamps base away now next front s =
    let w = HasWalk-front grid ends stamps base away now next front s in
    (Walk-open grid ends.goal w.steps front w.walk).0

pub Gathers-trans : (a b c : Frontier) → GathersCells a b → GathersCells b c → GathersCells a c
Gathers-trans a b c p q = record {
  grid = q.grid ∙ p.grid;
  stamps = q.stamps ∙ p.stamps;
  base = q.base ∙ p.base;
  away = q.away ∙ p.away;
  now = λ x h. q.now x (p.now x h);
  next = λ x h. q.next x (p.next x h);
}

-- what is met stays so
pub IsMetFrom-later : (a b : Frontier) (ends : Ends) (front cell : Point) → GathersCells a b → IsMetFrom a ends front cell → IsMetFrom b ends front cell
IsMetFrom-later a b ends front cell g met o most e =
    let m = met (rw g.grid at o) most (rw g.away at e) in
    rw (g.grid, g.stamps, g.base, g.away) (IsMet-gather a.grid.size a.stamps.items a.base a.away a.now.items a.next.items b.now.items b.next.items most cell (g.now cell) (g.next cell) m)

-- a mark that was done lessens what is left to do
pub undone-done : (size : Extent) (stamps : List ℕ) (base away : ℕ) (front : Point) → length stamps ≡ area size → Holds size front → mark_at size stamps front < base →
    sum_by (left_undone base) (set stamps (flag_index size front) (base + away)) + 1 ≡ sum_by (left_undone base) stamps
undone-done size stamps base away front l held lt =
    grind (arith, nat_tests, index_below size front held, sum_by-set (left_undone base) stamps (flag_index size front) (base + away) 0)

-- at most each stamp is of an earlier search
pub undone-most : (base : ℕ) (stamps : List ℕ) → sum_by (left_undone base) stamps ≤ length stamps
undone-most base [] = omega arith
undone-most base (m ∷ ms) = grind (arith, nat_tests, undone-most base ms, sum_by-cons (left_undone base) m ms)

-- a search that begins at the goal, over stamps of earlier searches
pub IsSeeking-begin : (grid : Chart) (ends : Ends) (stamps : List ℕ) (base : ℕ) (now : List Point) → IsStamped grid stamps base 0 → Holds grid.size ends.start → Holds grid.size ends.goal →
    ((cell : Point) → Holds grid.size cell → mark_at grid.size stamps cell < base) → ((cell : Point) → Contains now cell → cell ≡ ends.goal × IsOpen grid cell) → (IsOpen grid ends.goal → Contains now ends.goal) →
    IsSeeking grid ends stamps base 0 now []
IsSeeking-begin grid ends stamps base now stamped start goal fresh only has = record {
  stamped = stamped;
  start_held = start;
  goal_held = goal;
  start_waits = fresh ends.start start;
  walks_now = λ k d h.
      let (e, o) = only (get_or now k d) (Contains-get_or now k d h) in
      record { steps = 0; walk = (o, e); length_is = omega (arith, subst (λ (v : Point). steps_between (get_or now k d) ends.start ≡ steps_between v ends.start) e refl) };
  walks_next = λ k d h. absurd (omega (arith, h));
  begun = λ o. inr (inl (omega arith, has o));
  covered = λ cell k h is. absurd (omega (arith, fresh cell h, is));
}

-- a list of no elements
pub nil_of : (xs : List Point) → length xs ≡ 0 → xs ≡ []
nil_of [] e = refl
nil_of (x ∷ xs) e = absurd (omega (arith, e))

-- what is beside a cell is one of its neighbours
pub neighbour_at : (size : Extent) (c n : Point) → Holds size n → IsAdjacent c n → (k : ℕ) × (k < 4) × (slice_get (neighbours_of size c) k ≡ Some (Some n))
neighbour_at size c n held near = elim (neighbour_cases size c n held near) [
  | inl e ↦ (0, omega arith, ap Some e)
  | inr (inl e) ↦ (1, omega arith, ap Some e)
  | inr (inr (inl e)) ↦ (2, omega arith, ap Some e)
  | inr (inr (inr e)) ↦ (3, omega arith, ap Some e)
]

-- a fact of what an option may hold
pub IfSome-each : (P : Point → Type 0) (o : Option Point) → ((n : Point) → o ≡ Some n → P n) → IfSome o P
IfSome-each P None f = tt
IfSome-each P (Some n) f = f n refl

pub IfSome-neighbour : (size : Extent) (c : Point) (k : ℕ) (d : Option Point) → k < 4 → IfSome (get_or (neighbours_of size c) k d) (λ n. Holds size n × IsAdjacent c n)
IfSome-neighbour size c zero d h = IfSome-each _ (up_of size c) (up_of-adjacent size c)
IfSome-neighbour size c (suc zero) d h = IfSome-each _ (left_of size c) (left_of-adjacent size c)
IfSome-neighbour size c (suc (suc zero)) d h = IfSome-each _ (right_of size c) (right_of-adjacent size c)
IfSome-neighbour size c (suc (suc (suc zero))) d h = IfSome-each _ (down_of size c) (down_of-adjacent size c)
IfSome-neighbour size c (suc (suc (suc (suc k)))) d h = absurd (omega arith)

-- cells that compare equal are equal
pub same_cell : (a b : Point) → true ≡ (a.y == b.y && a.x == b.x) → a ≡ b
same_cell a b e = grind (arith, nat_tests, same_coordinates a b)
