use Rattle.std.proofs.lemmas.Bool.Decides.{nat_tests}
use Rattle.std.proofs.lemmas.Grind.{common_steps}
use Rattle.std.specs.Prelude.{slice_index, sum_by}
use Rattle.std.proofs.lemmas.List.{get_or_read}
use Rattle.std.proofs.Common.{get_or, ◌≡◌, ◌≢◌, ℕ, suc, ◌+◌, ◌<◌, ◌≤◌, ◌⊎◌, List, [], ◌∷◌, length, refl, sym, ap, ◌∙◌, inl, inr, arith, get_or-set_same, get_or-set_other, add-one}
use borrow.Author.Count.{below_more}
use Rattle.std.proofs.Math.ListN.{set, length-set}
use Rattle.std.proofs.lemmas.List.Sums.{sum_by-set, sum_by-cons}
use Rattle.grid_cells.specs.Cell.{Point, IsAdjacent}
use Rattle.grid_cells.specs.Size.{Extent, IsSize, Holds}
use Rattle.cell_queue.specs.Queue.{area}
use Rattle.grid_cells.specs.Grid.{flag_index, Chart, IsOpen}
use Rattle.grid_cells.specs.Walks.{Walk}
use Rattle.goal_fields.specs.declared.search.Search.{Search}
use Rattle.goal_fields.specs.Search.{IsSearch, slot, IsSearching, IsReached, SearchesOn, front_of, mark_of}
use Rattle.goal_fields.specs.Marks.{mark_at, far, blank}
use Rattle.cell_queue.proofs.Indexes.{index_below, same_place}
use Rattle.goal_fields.proofs.Neighbours.{IsAdjacent-sym}

-- a cell after a write at a cell
pub mark_at-set : (size : Extent) (marks : List ℕ) (a c : Point) (m : ℕ) → length marks ≡ area size → Holds size a → Holds size c →
    ((c ≡ a) × (mark_at size (set marks (flag_index size a) m) c ≡ m)) ⊎ (mark_at size (set marks (flag_index size a) m) c ≡ mark_at size marks c)
mark_at-set size marks a c m l p q =
    let here = get_or-set_same marks (flag_index size a) m 0 (omega (arith, index_below size a p)) in
    grind (arith, here, same_place size c a q p, get_or-set_other marks (flag_index size a) (flag_index size c) m 0)

-- a mark that is given is kept by a write at a cell that had none
pub kept : (size : Extent) (marks : List ℕ) (a c : Point) (m : ℕ) → length marks ≡ area size → Holds size a → Holds size c →
    mark_at size marks a ≡ far → mark_at size marks c < far → mark_at size (set marks (flag_index size a) m) c ≡ mark_at size marks c
kept size marks a c m l p q f lt = grind (arith, mark_at-set size marks a c m l p q)

-- what a mark needs to know of the place where it goes
pub record IsRoom (size : Extent) (marks : List ℕ) (tail : ℕ) (number : ℕ) (a : Point) : Type 0 where
  pub room : tail < area size
  pub counted : tail + 1 + sum_by blank (set marks (flag_index size a) number) ≡ area size

pub room_of : (size : Extent) (marks : List ℕ) (tail number : ℕ) (a : Point) → length marks ≡ area size → Holds size a →
    mark_at size marks a ≡ far → number < far → tail + sum_by blank marks ≡ area size → IsRoom size marks tail number a
room_of size marks tail number a l p f lt c = record {
  room = grind (arith, nat_tests, index_below size a p, sum_by-set blank marks (flag_index size a) number 0);
  counted = grind (arith, nat_tests, index_below size a p, sum_by-set blank marks (flag_index size a) number 0);
}

-- one more cell is marked and put at the end of the queue
pub IsSearch-mark : (grid : Chart) (goal : Point) (marks : List ℕ) (queue : List Point) (head tail : ℕ) (a : Point) (number : ℕ) →
    IsSearch grid goal marks queue head tail → head < tail → IsOpen grid a → IsAdjacent (slot queue goal head) a →
    number ≡ mark_at grid.size marks (slot queue goal head) + 1 → mark_at grid.size marks a ≡ far →
    IsSearch grid goal (set marks (flag_index grid.size a) number) (set queue tail a) head (tail + 1)
IsSearch-mark grid goal marks queue head tail a number s lt open_a adjacent next blank_here =
    let N : List ℕ = set marks (flag_index grid.size a) number in
    let Q : List Point = set queue tail a in
    let number_small : number < far = omega (arith, s.sized.cells_most, s.small head lt, s.counted) in
    let room : IsRoom grid.size marks tail number a = room_of grid.size marks tail number a s.one_mark_each open_a.0 blank_here number_small s.counted in
    let older : (i : ℕ) → i < tail → slot Q goal i ≡ slot queue goal i = λ i h. get_or-set_other queue tail i a goal (omega arith) in
    let newest : slot Q goal tail ≡ a = get_or-set_same queue tail a goal (omega (arith, room.room, s.one_slot_each)) in
    let marks_kept : (c : Point) → Holds grid.size c → mark_at grid.size marks c < far → mark_at grid.size N c ≡ mark_at grid.size marks c =
    (λ c h below. kept grid.size marks a c number s.one_mark_each open_a.0 h blank_here below) in
    let mark_older : (i : ℕ) → i < tail → mark_at grid.size N (slot Q goal i) ≡ mark_at grid.size marks (slot queue goal i) =
    (λ i h. rw (older i h) (marks_kept (slot queue goal i) (s.inside i h).0 (omega (arith, s.small i h, room.room)))) in
    let mark_newest : mark_at grid.size N (slot Q goal tail) ≡ number =
    rw newest (get_or-set_same marks (flag_index grid.size a) number 0 (omega (arith, index_below grid.size a open_a.0, s.one_mark_each))) in
    let fallen : (c : Point) → Holds grid.size c → mark_at grid.size N c ≤ mark_at grid.size marks c =
    (λ c h. grind (arith, mark_at-set grid.size marks a c number s.one_mark_each open_a.0 h)) in
    let top : (i : ℕ) → i < tail + 1 → mark_at grid.size N (slot Q goal i) ≤ number =
    below_more (λ i. mark_at grid.size N (slot Q goal i) ≤ number) tail (λ i h. omega (arith, s.near i h lt, mark_older i h)) (omega (arith, mark_newest)) in
    let small_at : (i : ℕ) → i < tail + 1 → mark_at grid.size N (slot Q goal i) ≤ i =
    below_more (λ i. mark_at grid.size N (slot Q goal i) ≤ i) tail (λ i h. omega (arith, s.small i h, mark_older i h)) (omega (arith, mark_newest)) in
    let sorted_to : (j : ℕ) → j < tail + 1 → (i : ℕ) → i ≤ j → mark_at grid.size N (slot Q goal i) ≤ mark_at grid.size N (slot Q goal j) =
    below_more (λ j. (i : ℕ) → i ≤ j → mark_at grid.size N (slot Q goal i) ≤ mark_at grid.size N (slot Q goal j)) tail
    (λ j h i le. omega (arith, s.sorted i j le h, mark_older i (omega arith), mark_older j h)) (λ i le. omega (arith, top i (omega arith), mark_newest)) in
    record {
      sized = s.sized;
      goal_held = s.goal_held;
      whole = s.whole;
      one_mark_each = length-set marks (flag_index grid.size a) number ∙ s.one_mark_each;
      one_slot_each = length-set queue tail a ∙ s.one_slot_each;
      ordered = omega (arith, s.ordered);
      counted = room.counted;
      inside = below_more (λ i. IsOpen grid (slot Q goal i)) tail (λ i h. rw (older i h) (s.inside i h)) (rw newest open_a);
      small = small_at;
      sorted = λ i j le h. sorted_to j h i le;
      near = λ j h _. omega (arith, top j h, mark_older head lt);
      placed = λ c h below. elim (mark_at-set grid.size marks a c number s.one_mark_each open_a.0 h) [
        | inl e ↦ (tail, omega arith, newest ∙ sym e.0)
        | inr e ↦ (let (i, l, at) = s.placed c h (omega (arith, e)) in (i, omega arith, older i l ∙ at))
      ];
      covered = λ i h c adj open_c.
          let within : i < tail = omega arith in
          omega (arith, s.covered i h c (rw (older i within) at adj) open_c, fallen c open_c.0, mark_older i within);
      walks = λ c h below.
          let rest = s.walks (slot queue goal head) (s.inside head lt).0 (omega arith) in
          let here : Walk grid number a goal = rw (next, add-one) (open_a, (slot queue goal head, IsAdjacent-sym _ _ adjacent, rest)) in
          elim (mark_at-set grid.size marks a c number s.one_mark_each open_a.0 h) [
            | inl e ↦ rw (e.1, e.0) here
            | inr e ↦ rw e (s.walks c h (omega (arith, e)))
          ];
      begun = λ o. marks_kept goal s.goal_held (omega (arith, s.begun o)) ∙ s.begun o;
      bounded = λ c h. omega (arith, fallen c h, s.bounded c h);
    }

-- while the search is at work, no mark is more than one above that of the front
pub mark_at-le : (grid : Chart) (goal : Point) (marks : List ℕ) (queue : List Point) (head tail : ℕ) (c : Point) →
    IsSearch grid goal marks queue head tail → head < tail → Holds grid.size c → mark_at grid.size marks c < far →
    mark_at grid.size marks c ≤ mark_at grid.size marks (slot queue goal head) + 1
mark_at-le grid goal marks queue head tail c s lt h below = grind (arith, s.placed c h below, s.near)

-- the cell whose turn it is has been dealt with
pub IsSearch-next : (grid : Chart) (goal : Point) (marks : List ℕ) (queue : List Point) (head tail : ℕ) →
    IsSearch grid goal marks queue head tail → head < tail →
    ((c : Point) → IsAdjacent (slot queue goal head) c → IsOpen grid c → mark_at grid.size marks c ≤ mark_at grid.size marks (slot queue goal head) + 1) →
    IsSearch grid goal marks queue (head + 1) tail
IsSearch-next grid goal marks queue head tail s lt near_front =
    let covered = below_more (λ i. (c : Point) → IsAdjacent (slot queue goal i) c → IsOpen grid c → mark_at grid.size marks c ≤ mark_at grid.size marks (slot queue goal i) + 1) head s.covered near_front in
    grind (arith, common_steps, covered, s.near, s.sorted head (head + 1))

pub mark_of-front : (s : Search) → IsSearching s → s.head < s.tail → mark_of s (front_of s) + 1 < far
mark_of-front s searching lt = grind (arith, searching.sized.cells_most, searching.small s.head lt, searching.counted)

pub GoesOn-trans : (a b c : Search) → SearchesOn a b → SearchesOn b c → SearchesOn a c
GoesOn-trans a b c p q =
    record {
      grid = q.grid ∙ p.grid;
      goal = q.goal ∙ p.goal;
      head = q.head ∙ p.head;
      tail = omega (arith, p.tail, q.tail);
      slots = λ i h. q.slots i (omega (arith, p.tail)) ∙ p.slots i h;
      marks = λ v held below. q.marks v (rw p.grid held) (omega (arith, p.marks v held below)) ∙ p.marks v held below;
    }

-- what was reached stays so
pub IsReached-later : (s t : Search) (number : ℕ) (c : Point) → SearchesOn s t → number < far → IsReached s number c → IsReached t number c
IsReached-later s t number c goes small reached open_c = grind (arith, goes.grid, goes.marks c)

-- a mark that was read
pub mark_read : (s : Search) (c : Point) (i x : ℕ) → IsSearching s → Holds s.grid.size c → i ≡ flag_index s.grid.size c → x ≡ get_or s.marks.items i x →
    x ≡ mark_of s c
mark_read s c i x searching held is read =
    get_or_read s.marks.items i x (omega (arith, is, searching.one_mark_each, index_below s.grid.size c held)) read 0
    ∙ ap (λ (n : ℕ). slice_index s.marks.items n) is

-- a cell that has a mark is reached
pub IsReached-marked : (s : Search) (number : ℕ) (c : Point) → IsSearching s → s.head < s.tail → number ≡ mark_of s (front_of s) + 1 → mark_of s c ≢ far → IsReached s number c
IsReached-marked s number c searching lt next marked open_c =
    grind (arith, searching.bounded c open_c.0, mark_at-le s.grid s.goal s.marks.items s.queue.items s.head s.tail c searching lt open_c.0)

-- in a list of cells without marks, each counts
pub sum_by-blank : (marks : List ℕ) → ((k : ℕ) → k < length marks → slice_index marks k ≡ far) → sum_by blank marks ≡ length marks
sum_by-blank [] all = refl
sum_by-blank (m ∷ ms) all = grind (arith, nat_tests, all 0, sum_by-blank ms (λ k h. all (suc k) (omega arith)), sum_by-cons blank m ms)

-- a search that has begun at a closed goal is over
pub IsSearch-closed : (grid : Chart) (goal : Point) (marks : List ℕ) (queue : List Point) →
    IsSize grid.size.width grid.size.height → Holds grid.size goal → length grid.flags ≡ area grid.size → length marks ≡ area grid.size → length queue ≡ area grid.size →
    ((k : ℕ) → k < length marks → slice_index marks k ≡ far) → (IsOpen grid goal → ⊥) → IsSearch grid goal marks queue 0 0
IsSearch-closed grid goal marks queue sized held whole m q all closed =
    let unmarked : (c : Point) → Holds grid.size c → mark_at grid.size marks c ≡ far =
    λ c h. all (flag_index grid.size c) (omega (arith, index_below grid.size c h, m)) in
    grind (arith, common_steps, unmarked, sum_by-blank marks all, closed)

-- a search that has begun at an open goal has the goal to deal with
pub IsSearch-begin : (grid : Chart) (goal : Point) (marks : List ℕ) (queue : List Point) →
    IsSize grid.size.width grid.size.height → IsOpen grid goal → length grid.flags ≡ area grid.size → length marks ≡ area grid.size → length queue ≡ area grid.size →
    ((k : ℕ) → k < length marks → slice_index marks k ≡ far) → IsSearch grid goal (set marks (flag_index grid.size goal) 0) (set queue 0 goal) 0 1
IsSearch-begin grid goal marks queue sized open_goal whole m q all =
    let N : List ℕ = set marks (flag_index grid.size goal) 0 in
    let Q : List Point = set queue 0 goal in
    let unmarked : (c : Point) → Holds grid.size c → mark_at grid.size marks c ≡ far =
    λ c h. all (flag_index grid.size c) (omega (arith, index_below grid.size c h, m)) in
    let at_goal : mark_at grid.size N goal ≡ 0 =
    get_or-set_same marks (flag_index grid.size goal) 0 0 (omega (arith, index_below grid.size goal open_goal.0, m)) in
    let first : slot Q goal 0 ≡ goal = get_or-set_same queue 0 goal goal (omega (arith, index_below grid.size goal open_goal.0, q)) in
    let room : IsRoom grid.size marks 0 0 goal =
    room_of grid.size marks 0 0 goal m open_goal.0 (unmarked goal open_goal.0) (omega arith) (omega (arith, sum_by-blank marks all)) in
    let only : (c : Point) → Holds grid.size c → mark_at grid.size N c < far → c ≡ goal =
    λ c h below. grind (arith, unmarked c h, mark_at-set grid.size marks goal c 0 m open_goal.0 h) in
    let at_zero : (i : ℕ) → i < 1 → mark_at grid.size N (slot Q goal i) ≡ 0 = λ i h. (let z : i ≡ 0 = omega arith in rw (z, first) at_goal) in
    record {
      sized = sized;
      goal_held = open_goal.0;
      whole = whole;
      one_mark_each = length-set marks (flag_index grid.size goal) 0 ∙ m;
      one_slot_each = length-set queue 0 goal ∙ q;
      ordered = omega arith;
      counted = room.counted;
      inside = λ i h. (let z : i ≡ 0 = omega arith in rw (z, first) open_goal);
      small = λ i h. omega (arith, at_zero i h);
      sorted = λ i j le h. omega (arith, at_zero i (omega arith));
      near = λ j h lt. omega (arith, at_zero j h);
      placed = λ c h below. (0, omega arith, first ∙ sym (only c h below));
      covered = λ i h c adj o. absurd (omega arith);
      walks = λ c h below. rw (only c h below, at_goal) (open_goal, refl);
      begun = λ o. at_goal;
      bounded = λ c h. grind (arith, unmarked c h, mark_at-set grid.size marks goal c 0 m open_goal.0 h);
    }
