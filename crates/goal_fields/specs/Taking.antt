-- A taking (Koenig, Likhachev, Furcy 2004): the g of a cell was written, and the cells that hang on it are to be updated.
use Rattle.std.specs.Prelude.{◌≡◌, ◌≢◌, ◌⊎◌, ℕ, ◌+◌, ◌≤◌, ◌<◌, None}
use Rattle.grid_cells.specs.Cell.{Point}
use Rattle.grid_cells.specs.Size.{Holds}
use Rattle.cell_queue.specs.Queue.{key_at}
use Rattle.goal_fields.specs.declared.lifelong.Lifelong.{Lifelong}
use Rattle.goal_fields.specs.Repair.{IsRhs, IsWrite, key_for}
use Rattle.goal_fields.specs.Lifelong.{IsGood, IsSameBut, KeepsKey, g_of}

-- keys alone have changed: a cell that was good is, and each has its key from before or is good
pub record Advances (old new : Lifelong) : Type 0 where
  pub same : IsSameBut old new
  pub keeps : (c : Point) → Holds old.grid.size c → IsGood old c → IsGood new c
  pub others : (c : Point) → Holds old.grid.size c → IsGood new c ⊎ KeepsKey old new c

-- the cell is in the queue as its rhs wanted it before the write; `g` are the numbers before
pub record Lags (g : Point → ℕ) (s : Lifelong) (cell : Point) : Type 0 where
  pub rhs : ℕ
  pub equation : IsRhs s.grid s.goal g cell rhs
  pub queued : key_at s.queue cell ≡ key_for (g_of s cell) rhs

-- one g was written, which was `was` and is `now`, and each other cell is good or lags
pub record FollowsWrite (g : Point → ℕ) (s : Lifelong) (from : Point) (was now : ℕ) : Type 0 where
  pub written : IsWrite s.grid g (g_of s) from now
  pub before : g from ≡ was
  pub each : (c : Point) → Holds s.grid.size c → c ≢ from → IsGood s c ⊎ Lags g s c

-- one g was just written, and the cell is good where its g went down
pub record IsTaking (g : Point → ℕ) (s : Lifelong) (from : Point) (was : ℕ) : Type 0 where
  pub follows : FollowsWrite g s from was (g_of s from)
  pub lowered : g_of s from < was → IsGood s from

-- the cell isn't queued, and its g is such that a neighbour's g, which was `was` and is `now`, doesn't move it
pub record IsUnstirred (s : Lifelong) (cell : Point) (was now : ℕ) : Type 0 where
  pub unqueued : key_at s.queue cell ≡ None
  pub lowered : now < was → g_of s cell ≤ now + 1
  pub raised : was < now → g_of s cell ≢ was + 1
