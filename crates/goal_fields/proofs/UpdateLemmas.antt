use Rattle.std.proofs.lemmas.Bool.Decides.{nat_tests}
use Rattle.std.specs.Prelude.{min}
use Rattle.std.proofs.Common.{◌+◌, ◌≡◌, ◌≢◌, ℕ, ◌<◌, ◌≤◌, ◌⊎◌, length, Option, Some, None, ◌∙◌, inl, inr, arith, get_or-set_same, get_or-set_other}
use Rattle.grid_cells.specs.Cell.{Point, IsAdjacent}
use Rattle.goal_fields.specs.Marks.{far}
use Rattle.grid_cells.specs.Size.{Holds}
use Rattle.cell_queue.specs.Queue.{Queue, area, key_at, with_key}
use Rattle.grid_cells.specs.Grid.{flag_index, Chart, IsOpen}
use Rattle.goal_fields.proofs.Neighbours.{up_of, left_of, right_of, down_of, neighbour_cases, up_of-adjacent, left_of-adjacent, right_of-adjacent, down_of-adjacent}
use Rattle.goal_fields.specs.Repair.{IsRhs, key_for}
use Rattle.cell_queue.proofs.Indexes.{index_below, same_place}

-- another key for one cell leaves those of the others
pub key_at-other : (queue : Queue) (cell c : Point) (key : Option ℕ) → Holds queue.size cell → Holds queue.size c → c ≢ cell → key_at (with_key queue cell key) c ≡ key_at queue c
key_at-other queue cell c key hc h ne = get_or-set_other queue.keys (flag_index queue.size cell) (flag_index queue.size c) key None (λ e. ne (same_place queue.size c cell h hc e))

-- the key that was set
pub key_at-set : (queue : Queue) (cell : Point) (key : Option ℕ) → Holds queue.size cell → length queue.keys ≡ area queue.size →
    key_at (with_key queue cell key) cell ≡ key
key_at-set queue cell key h long = get_or-set_same queue.keys (flag_index queue.size cell) key None (omega (arith, index_below queue.size cell h, long))

pub key_none : (g r : ℕ) → g ≡ r → None ≡ key_for g r
key_none g r e = grind (arith, nat_tests)

pub key_min : (g r k : ℕ) → g ≢ r → k ≡ min g r → Some k ≡ key_for g r
key_min g r k ne e = grind (arith, nat_tests)

-- the least over the four neighbours meets the equation
pub record IsThrough (grid : Chart) (g : Point → ℕ) (next : Option Point) (r : ℕ) : Type 0 where
  pub upper : (n : Point) → next ≡ Some n → IsOpen grid n → r ≤ g n + 1
  pub lower : r < far → (n : Point) × (next ≡ Some n) × IsOpen grid n × (r ≡ g n + 1)

-- the least over the four neighbours is the rhs of an open cell that is not the goal
pub IsRhs-least : (grid : Chart) (goal : Point) (g : Point → ℕ) (c : Point) (r1 r2 r3 r4 r : ℕ) → IsOpen grid c → (c ≡ goal → ⊥) →
    IsThrough grid g (up_of grid.size c) r1 → IsThrough grid g (left_of grid.size c) r2 → IsThrough grid g (right_of grid.size c) r3 → IsThrough grid g (down_of grid.size c) r4 →
    r ≤ far → r ≤ r1 → r ≤ r2 → r ≤ r3 → r ≤ r4 → ((r ≡ r1) ⊎ ((r ≡ r2) ⊎ ((r ≡ r3) ⊎ (r ≡ r4)))) → IsRhs grid goal g c r
IsRhs-least grid goal g c r1 r2 r3 r4 r o ne t1 t2 t3 t4 top l1 l2 l3 l4 which =
    record {
      bounded = top;
      closed = λ shut. absurd (shut o);
      at_goal = λ _ e. absurd (ne e);
      upper = λ _ _ n adj on. grind (arith, neighbour_cases grid.size c n on.0 adj, t1.upper n, t2.upper n, t3.upper n, t4.upper n);
      lower = λ _ _ lt. under which lt;
    }
  where
    under : ((r ≡ r1) ⊎ ((r ≡ r2) ⊎ ((r ≡ r3) ⊎ (r ≡ r4)))) → r < far → (next : Point) × IsAdjacent c next × IsOpen grid next × (r ≡ g next + 1)
    under (inl e) lt = (let (n, s, on, q) = t1.lower (omega arith) in (n, (up_of-adjacent grid.size c n s).1, on, e ∙ q))
    under (inr (inl e)) lt = (let (n, s, on, q) = t2.lower (omega arith) in (n, (left_of-adjacent grid.size c n s).1, on, e ∙ q))
    under (inr (inr (inl e))) lt = (let (n, s, on, q) = t3.lower (omega arith) in (n, (right_of-adjacent grid.size c n s).1, on, e ∙ q))
    under (inr (inr (inr e))) lt = (let (n, s, on, q) = t4.lower (omega arith) in (n, (down_of-adjacent grid.size c n s).1, on, e ∙ q))
