-- Each cell of the map has a distance to each goal that is held.
use Rattle.std.proofs.Common.{ℕ, List, Option, Some, None, get_or, arith}
use Rattle.std.proofs.Math.ListN.{length-map}
use Rattle.std.proofs.lemmas.List.Elements.{All-map}
use Rattle.grid_cells.specs.Cell.{Point}
use Rattle.grid_cells.specs.Size.{Holds}
use Rattle.grid_cells.specs.Walks.{IsDistance}
use Rattle.goal_fields.specs.declared.distances.Distances.{Distances}
use Rattle.goal_fields.specs.declared.lifelong.Lifelong.{Lifelong}
use Rattle.goal_fields.specs.Marks.{distance_of, mark_at}
use Rattle.goal_fields.specs.Target.{Standing}
use Rattle.goal_fields.specs.Held.{HaveDistances}
use Rattle.goal_fields.specs.Standings.{standing_on, chart_in, standings, HaveRoom}
use Rattle.goal_fields.proofs.CountLemmas.{IsDistance-at_rest}

pub HaveDistances-kept : (room : Option Lifelong) (held : List Distances) → HaveRoom held room → HaveDistances (standings room held)
HaveDistances-kept None held none = λ k d within. absurd (omega (arith, none, length-map held (standing_on (chart_in None))))
HaveDistances-kept (Some room) held have =
    All-map (λ (field : Standing). (cell : Point) → Holds field.grid.size cell → (distance : Option ℕ) × IsDistance field.grid cell field.goal distance) (standing_on room.grid) held
    (λ k d within cell inside. let one = get_or held k d in (distance_of (mark_at room.grid.size one.g.items cell), IsDistance-at_rest room.grid one.goal one.g.items (have.2 k d within) cell inside))
