-- What a queue has counted is the change count.
use Rattle.std.proofs.lemmas.Bool.Decides.{nat_tests}
use Rattle.std.specs.Prelude.{Bool, cond, slice_index, slice_index_or}
use Rattle.std.specs.List.{zip}
use Rattle.std.proofs.Common.{◌≡◌, ℕ, suc, ◌+◌, ◌<◌, ◌≤◌, List, [], ◌∷◌, length, map, Option, Some, None, refl, sym, ap, subst, ◌∙◌, arith}
use Rattle.std.proofs.Math.ListN.{length-map}
use Rattle.std.proofs.lemmas.List.{get_or-map}
use Rattle.std.proofs.lemmas.List.Sums.{sum_by-cons}
use Rattle.grid_cells.specs.Cell.{Point}
use Rattle.grid_cells.specs.Size.{Holds}
use Rattle.grid_cells.specs.Grid.{Chart, flag_index}
use Rattle.grid_cells.specs.Walks.{IsDistance}
use Rattle.cell_queue.proofs.Indexes.{index_below}
use Rattle.goal_fields.specs.Marks.{far, distance_of, mark_at}
use Rattle.goal_fields.specs.Target.{HaveCounted}
use Rattle.goal_fields.specs.Rest.{IsAtRest}
use Rattle.goal_fields.specs.Changes.{has_grown, came, change_count, AreDistances, IsChangeCount, IsRepaired}
use Rattle.goal_fields.specs.Repair.{change}
use Rattle.goal_fields.specs.Lifelong.{count_over}
use Rattle.goal_fields.proofs.Neighbours.{cell_at}
use Rattle.goal_fields.proofs.TakeLemmas.{count_over-le}
use Rattle.goal_fields.proofs.RepairEnds.{far_no, far_yes, IsDistance-consistent}

-- 1 where the test holds
abbrev pub one_if : Bool → ℕ
one_if b = cond b 1 0

-- what one cell adds to the change count, by its distances
pub change-is : (x y : ℕ) → x ≤ far → y ≤ far → change x y ≡ one_if (has_grown (distance_of x, distance_of y)) + one_if (came (distance_of x, distance_of y))
change-is x y hx hy = grind (arith, nat_tests)

-- all cells together
pub count_over-is : (d g : List ℕ) → length d ≡ length g → ((i : ℕ) → i < length d → slice_index d i ≤ far) → ((i : ℕ) → i < length g → slice_index g i ≤ far) →
    count_over d g ≡ change_count (map distance_of d) (map distance_of g)
count_over-is [] [] long hd hg = refl
count_over-is [] (y ∷ g) long hd hg = absurd (omega arith)
count_over-is (x ∷ d) [] long hd hg = absurd (omega arith)
count_over-is (x ∷ d) (y ∷ g) long hd hg =
    let rest = count_over-is d g (omega arith) (λ i h. hd (suc i) (omega arith)) (λ i h. hg (suc i) (omega arith)) in
    let cells = zip (map distance_of d) (map distance_of g) in
    let grown = sum_by-cons (λ p. one_if (has_grown p)) (distance_of x, distance_of y) cells in
    let arrived = sum_by-cons (λ p. one_if (came p)) (distance_of x, distance_of y) cells in
    omega (arith, rest, change-is x y (hd 0 (omega arith)) (hg 0 (omega arith)), grown, arrived)

-- no g is above the number that is none
pub g-le : (grid : Chart) (goal : Point) (g : List ℕ) → IsAtRest grid goal g → (i : ℕ) → i < length g → slice_index g i ≤ far
g-le grid goal g rest i h =
    (let (c, held, at) = cell_at grid.size (omega (arith, rest.sized.wide)) i (omega (arith, rest.one_g_each)) in
    subst (λ (n : ℕ). slice_index g n ≤ far) at (rest.consistent c held).bounded)

-- between two repairs g is the distance
pub IsDistance-at_rest : (grid : Chart) (goal : Point) (g : List ℕ) → IsAtRest grid goal g → (c : Point) → Holds grid.size c → IsDistance grid c goal (distance_of (mark_at grid.size g c))
IsDistance-at_rest grid goal g rest = IsDistance-consistent grid goal g rest.one_g_each rest.sized.cells_most rest.consistent

-- the number at a cell's place tells its distance
module _ (grid : Chart) (goal : Point) (g : List ℕ) (rest : IsAtRest grid goal g) (c : Point) (held : Holds grid.size c) (i : ℕ) (is : i ≡ flag_index grid.size c) where
  its_distance : (d : Option ℕ) → distance_of (slice_index g i) ≡ d → IsDistance grid c goal d
  its_distance d e = subst (λ (v : Option ℕ). IsDistance grid c goal v) (ap (λ (n : ℕ). distance_of (slice_index g n)) (sym is) ∙ e) (IsDistance-at_rest grid goal g rest c held)

  pub distance_none : slice_index g i ≡ far → IsDistance grid c goal None
  distance_none e = its_distance None (rw (far_yes (slice_index g i) (omega (arith, e)) (omega (arith, e))) refl)

  pub distance_some : (slice_index g i ≡ far → ⊥) → IsDistance grid c goal (Some (slice_index g i))
  distance_some ne =
      let same : slice_index g i ≡ mark_at grid.size g c = ap (λ (n : ℕ). slice_index g n) is in
      let below : slice_index g i < far = omega (arith, same, (rest.consistent c held).bounded, ne) in
      its_distance (Some (slice_index g i)) (rw (far_no (slice_index g i) below) refl)

pub AreDistances-at_rest : (grid : Chart) (goal : Point) (g : List ℕ) → IsAtRest grid goal g → AreDistances grid goal (map distance_of g)
AreDistances-at_rest grid goal g rest =
    record {
      one_each = rw length-map rest.one_g_each;
      right = λ c h.
          (let inside : flag_index grid.size c < length g = omega (arith, index_below grid.size c h, rest.one_g_each) in
          let read : slice_index_or (map distance_of g) (flag_index grid.size c) None ≡ distance_of (mark_at grid.size g c) = get_or-map distance_of g (flag_index grid.size c) 0 None inside in
          rw read (IsDistance-at_rest grid goal g rest c h));
    }

-- the numbers before and after a repair
module _ (old new : Chart) (goal : Point) (d g : List ℕ) (count : ℕ) (before : IsAtRest old goal d) (after : IsAtRest new goal g) (is : count ≡ count_over d g) where
  -- there are at most two changes for each cell
  pub at_rest-few : count ≤ 2097152
  at_rest-few = omega (arith, is, count_over-le d g, before.one_g_each, before.sized.cells_most)

  -- their change count
  pub IsChangeCount-at_rest : new.size ≡ old.size → IsChangeCount old new goal count
  IsChangeCount-at_rest size =
      let long : length d ≡ length g = before.one_g_each ∙ sym (rw size at after.one_g_each) in
      record {
        olds = map distance_of d;
        news = map distance_of g;
        old_distances = AreDistances-at_rest old goal d before;
        new_distances = AreDistances-at_rest new goal g after;
        counted = is ∙ count_over-is d g long (g-le old goal d before) (g-le new goal g after);
      }

  pub IsRepaired-at_rest : (map : Chart) → new ≡ map → new.size ≡ old.size → (was total taken now : ℕ) → count ≡ taken → HaveCounted count total now →
      IsRepaired map (record { grid = old; goal = goal; taken = was; total = total }) (record { grid = new; goal = goal; taken = taken; total = now })
  IsRepaired-at_rest map same size was total taken now counted told =
      record {
        stands = same;
        goal = refl;
        count = subst (λ (t : Chart). IsChangeCount old t goal taken) same (subst (λ (n : ℕ). IsChangeCount old new goal n) counted (IsChangeCount-at_rest size));
        total = subst (λ (n : ℕ). HaveCounted n total now) counted told;
        sound = record { whole = after.whole; held = after.goal_held };
      }
