-- How books follow changes (this project's choice).
use Rattle.std.specs.Prelude.{◌≡◌, ℕ, ◌+◌, ◌<◌, min, Option, List, Contains}
use Rattle.std.specs.List.{AllPairs, sum_by}
use Rattle.std.specs.Option.{option_map_or}
use Rattle.plan_table.specs.Route.{Route, route_in}
use Rattle.plan_table.specs.Plans.{row_of}
use Rattle.plan_table.specs.declared.plans.Row.{Row}
use Rattle.plan_table.specs.declared.tracks.Mode.{Mode}
use Rattle.where_index.specs.Records.{nothing, records_apart}
use Rattle.scene_edits.specs.Scene.{SceneState}
use Rattle.scene_edits.specs.declared.changes.Change.{Change}
use Rattle.scene_edits.specs.ChangedBy.{ChangedBy}
use Rattle.scene_edits.specs.Formers.{former_row, former_past, AreFormers}
use Rattle.scene_edits.specs.Kept.{AreAlike}
use Rattle.scene_edits.specs.declared.named_agents.Former.{Former}
use Rattle.live_report.specs.Prices.{Rows}
use Rattle.live_report.specs.Books.{BooksState, AreOf}

-- the books are those of a scene that edits with those changes made the present one
pub record AreBehind (changes : List Change) (scene : SceneState) (books : BooksState) : Type 0 where
  pub before : SceneState
  pub changed : ChangedBy before changes scene
  pub are : AreOf before books

-- the rows are the new ones, but for those of the agents that are listed: these have the rows that the list says
pub record AreLeft (rows new : Rows) (formers : List Former) : Type 0 where
  pub rising : AllPairs (λ a b. a.agent < b.agent) formers
  pub was : (former : Former) → Contains formers former → rows former.agent ≡ former_row former
  pub alike : (former : Former) → Contains formers former → AreAlike (former_past former) (new former.agent)
  pub others : (agent : ℕ) → ((former : Former) → Contains formers former → former.agent ≡ agent → ⊥) → rows agent ≡ new agent

-- the route of an agent's row, and one of no records where it has none
abbrev pub route_of_row : Mode → Option Row → Route
route_of_row mode row = option_map_or (route_in mode) row nothing

-- how many records exactly one of an agent's routes before and after has
abbrev pub former_apart : Mode → List (ℕ × Row) → Former → ℕ
former_apart mode rows former = records_apart (route_of_row mode (former_row former)) (route_of_row mode (row_of rows former.agent))

-- the index was touched for each agent whose row changed, once: by the records that exactly one of its routes before and after has
pub record TouchesOnce (mode : Mode) (old new : List (ℕ × Row)) (most before after : ℕ) : Type 0 where
  pub formers : List Former
  pub are : AreFormers old new formers
  pub touched : after ≡ min (before + sum_by (former_apart mode new) formers) most
