-- Changes taken back, agent by agent, and the rows that are kept meanwhile (this project's choice).
use Rattle.std.specs.Borrow.{Bor}
use Rattle.std.specs.Prelude.{ℕ, min, Option, Some, None, IfSome, unwrap_or, List, [], ◌∷◌, ◌==◌, if◌then◌else◌}
use Rattle.std.specs.Option.{option_map, option_map_or}
use Rattle.std.specs.Ordering.{nat_cmp}
use Rattle.std.specs.BTreeMap.{BTreeMap, get}
use Rattle.grid_cells.specs.Cell.{Point}
use Rattle.plan_table.specs.Path.{SamePlaces}
use Rattle.plan_table.specs.Plans.{row_of}
use Rattle.plan_table.specs.declared.plans.Row.{Row}
use Rattle.scene_edits.specs.declared.changes.Change.{Change}
use Rattle.scene_edits.specs.declared.changes.Change.TheVariants.{Added, Dropped, Aimed, Moved, Flipped, Same}
use Rattle.scene_edits.specs.declared.taking_back.Kept.{Kept}
use Rattle.scene_edits.specs.declared.taking_back.TheConstants.{FOR_EVER}

-- a row that an agent had, and below which time its path is known to be in the cells of the agent's later path
pub record Past : Type 0 where
  pub row : Row
  pub alike : ℕ

-- the path of the past row, where there is one, is so known rightly, where the agent has a row later
abbrev pub AreAlike : Option Past → Option Row → Type 0
AreAlike past later = IfSome past (λ p. IfSome later (λ row. SamePlaces p.row.plan row.plan p.alike))

-- the row with the plan before a move, from that time on elsewhere than the plan after it, if it ever is
abbrev pub moved_back : List Point → Option ℕ → Past → Past
moved_back plan since p = record { row = record p.row { plan = plan }; alike = min p.alike (unwrap_or since p.alike) }

-- the row that an agent had before a change, from the row that it has after it
abbrev pub before_change : Change → ℕ → Option Past → Option Past
before_change (Added a) agent past = if a == agent then None else past
before_change (Dropped a was) agent past = if a == agent then Some (record { row = was; alike = 0 }) else past
before_change (Aimed a goal) agent past = if a == agent then option_map (λ (p : Past). record { row = record p.row { goal = goal }; alike = p.alike }) past else past
before_change (Moved a plan since) agent past = if a == agent then option_map (moved_back plan since) past else past
before_change (Flipped cell) agent past = past
before_change (Same cell) agent past = past

-- the same for several changes, the last one taken back first
abbrev pub before_changes : List Change → ℕ → Option Past → Option Past
before_changes [] agent past = past
before_changes (change ∷ later) agent past = before_change change agent (before_changes later agent past)

-- the row of a goal and a plan, if there is a plan, and how far it is known
abbrev pub past_with : Point → ℕ → Option (Bor (List Point)) → Option Past
past_with goal alike plan = option_map (λ p. record { row = record { goal = goal; plan = p.now }; alike = alike }) plan

-- the row that is kept, if the agent had one
abbrev pub kept_past : Kept → Option Past
kept_past kept = past_with kept.goal kept.alike kept.plan

-- a row of the table after all changes
abbrev pub present : Option Row → Option Past
present row = option_map (λ r. record { row = r; alike = FOR_EVER }) row

-- an agent's row: what is kept for it, and where nothing is, its row in the table
abbrev pub past_known : BTreeMap ℕ Kept → List (ℕ × Row) → ℕ → Option Past
past_known kept rows agent = option_map_or kept_past (get nat_cmp kept agent) (present (row_of rows agent))
