-- The records that an index keeps of a route at each time (this project's choice): Stand, where its agent stands before it
-- comes to rest; Tail, where it comes to rest; Move, where it moves.
use Rattle.std.specs.Prelude.{ℕ, zero, suc, ◌+◌, max, Bool, false, not, ◌&&◌, ◌||◌, ◌==◌, nat_lt, if◌then◌else◌, Option, Some, None, List, [], length, slice_get}
use Rattle.grid_cells.specs.Cell.{Point}
use Rattle.plan_table.specs.Route.{Route}
use Rattle.where_index.specs.declared.trails.Hop.{Hop}

abbrev pub route : List Point → Bool → Route
route path leaves = record { path = path; leaves = leaves }

-- the cell of the record Stand at a time: before the last index, and at it where the route leaves
abbrev pub stand_at : Route → ℕ → Option Point
stand_at r time = if (nat_lt (time + 1) (length r.path) || (r.leaves && (time + 1 == length r.path))) then slice_get r.path time else None

-- the cell of the record Tail, at the last index of a route that stays
abbrev pub tail_at : Route → ℕ → Option Point
tail_at r time = if (not r.leaves && (time + 1 == length r.path)) then slice_get r.path time else None

-- the two are one cell
abbrev pub same_point : Point → Point → Bool
same_point a b = (a.x == b.x) && (a.y == b.y)

-- the move between two cells that are given and differ
abbrev pub hop_between : Option Point → Option Point → Option Hop
hop_between (Some a) (Some b) = if same_point a b then None else Some (record { from = a; to = b })
hop_between (Some a) None = None
hop_between None b = None

-- the cells of the record Move at a time
abbrev pub hop_at : List Point → ℕ → Option Hop
hop_at path time = hop_between (slice_get path time) (slice_get path (time + 1))

-- from the one cell to the other
abbrev pub hop : Point → Point → Hop
hop from to = record { from = from; to = to }

-- where an agent stands, if it does, and where it is one step later: where its move leads, if it makes one
abbrev pub leg_between : Option Point → Option Hop → Option Hop
leg_between None move = None
leg_between (Some cell) None = Some (hop cell cell)
leg_between (Some cell) (Some move) = Some (hop cell move.to)

-- where a route's agent stands at a time and where it is one step later, by the records Stand and Move
abbrev pub leg_at : Route → ℕ → Option Hop
leg_at r time = leg_between (stand_at r time) (hop_at r.path time)

-- where it comes to rest, and stays, by the record Tail
abbrev pub rest_at : Route → ℕ → Option Hop
rest_at r time = leg_between (tail_at r time) None

-- how many of the two are given, where they differ
abbrev pub changed : Option Point → Option Point → ℕ
changed None None = 0
changed None (Some b) = 1
changed (Some a) None = 1
changed (Some a) (Some b) = if same_point a b then 0 else 2

-- how many of the two moves are given, where they differ
abbrev pub changed_hop : Option Hop → Option Hop → ℕ
changed_hop None None = 0
changed_hop None (Some b) = 1
changed_hop (Some a) None = 1
changed_hop (Some a) (Some b) = if (same_point a.from b.from && same_point a.to b.to) then 0 else 2

-- how many of the records Stand and Move of two routes at a time are given, where they differ
abbrev pub leg_changed : Route → Route → ℕ → ℕ
leg_changed old new time = changed (stand_at old time) (stand_at new time) + changed_hop (hop_at old.path time) (hop_at new.path time)

-- how many records exactly one of the two has, below a time
abbrev pub changes_below : {X : Type 0} → (X → X → ℕ) → (ℕ → X) → (ℕ → X) → ℕ → ℕ
changes_below change old new zero = 0
changes_below change old new (suc x) = changes_below change old new x + change (old x) (new x)

-- how many records Stand and Move exactly one of two routes has, below a time
abbrev pub legs_apart : Route → Route → ℕ → ℕ
legs_apart old new to = changes_below changed (stand_at old) (stand_at new) to + changes_below changed_hop (hop_at old.path) (hop_at new.path) to

-- how many records exactly one of two routes has, below a time
abbrev pub apart_below : Route → Route → ℕ → ℕ
apart_below old new to = legs_apart old new to + changes_below changed (tail_at old) (tail_at new) to

-- how many records exactly one of two routes has
abbrev pub records_apart : Route → Route → ℕ
records_apart old new = apart_below old new (max (length old.path) (length new.path))

-- the route of no records
abbrev pub nothing : Route
nothing = route [] false
