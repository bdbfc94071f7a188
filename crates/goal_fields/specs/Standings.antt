-- Distances that stand for one map are fields.
use Rattle.std.specs.Prelude.{◌≡◌, ◌<◌, List, [], Option, Some, None, All, length, map}
use Rattle.grid_cells.specs.Size.{extent}
use Rattle.grid_cells.specs.Grid.{Chart}
use Rattle.goal_fields.specs.declared.distances.Distances.{Distances}
use Rattle.goal_fields.specs.declared.lifelong.Lifelong.{Lifelong}
use Rattle.goal_fields.specs.Target.{Standing}
use Rattle.goal_fields.specs.Changes.{IsRepaired}
use Rattle.goal_fields.specs.Rest.{IsAtRest, IsRoomOn}

-- the numbers are the distances on the map
abbrev pub AreAtRest : Chart → Distances → Type 0
AreAtRest grid held = IsAtRest grid held.goal held.g.items

-- the field that distances on a map are
abbrev pub standing_on : Chart → Distances → Standing
standing_on grid held = record { grid = grid; goal = held.goal; taken = held.taken; total = held.total }

-- distances on a map, and as they are after a repair for another one
abbrev pub AreRepaired : Chart → Chart → Distances → Distances → Type 0
AreRepaired old grid before after = IsRepaired grid (standing_on old before) (standing_on grid after)

-- the map of the room; a map without cells, where there is no room
abbrev pub chart_in : Option Lifelong → Chart
chart_in None = record { size = extent 0 0; flags = [] }
chart_in (Some room) = room.grid

-- the fields that distances are, on the map of the room
abbrev pub standings : Option Lifelong → List Distances → List Standing
standings room held = map (standing_on (chart_in room)) held

-- there is a room where there are distances, and they are those on its map
abbrev pub HaveRoom : List Distances → Option Lifelong → Type 0
HaveRoom held None = length held ≡ 0
HaveRoom held (Some room) = (0 < length held) × IsRoomOn room.grid room × All (AreAtRest room.grid) held
