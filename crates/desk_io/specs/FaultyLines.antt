-- The line of a text that a fault is about, counted from 1 (this project's choice).
use Rattle.std.specs.Prelude.{ℕ, ◌+◌, ◌-◌, ◌^◌, Option, Some, None, min}
use Rattle.bench_reader.specs.declared.maps.MapFault.{MapFault}
use Rattle.bench_reader.specs.declared.maps.MapFault.TheVariants as map
use Rattle.bench_reader.specs.declared.scens.ScenFault.{ScenFault}
use Rattle.bench_reader.specs.declared.scens.ScenFault.TheVariants as scen
use Rattle.path_files.specs.declared.faults.PathsFault.{PathsFault}
use Rattle.path_files.specs.declared.faults.PathsFault.TheVariants as paths

-- a row, counted from 0, stands behind the four lines of the map's header; so far as a line can be counted
abbrev pub line_of_row : ℕ → ℕ
line_of_row row = min (row + 5) (2 ^ 64 - 1)

abbrev pub line_in_map : MapFault → Option ℕ
line_in_map map.NotOctile = Some 1
line_in_map (map.BadHeader line) = Some line
line_in_map (map.ShortRow row) = Some (line_of_row row)
line_in_map (map.LongRow row) = Some (line_of_row row)
line_in_map (map.BadLetter row col) = Some (line_of_row row)
line_in_map (map.ExtraLine line) = Some line
line_in_map other = None

abbrev pub line_in_scen : ScenFault → Option ℕ
line_in_scen scen.BadVersion = Some 1
line_in_scen (scen.FieldCount line) = Some line
line_in_scen (scen.BadNumber line field) = Some line
line_in_scen (scen.SizeMismatch line) = Some line
line_in_scen (scen.OutOfMap line field) = Some line
line_in_scen scen.OutOfMemory = None

abbrev pub line_in_paths : PathsFault → Option ℕ
line_in_paths (paths.NoForm line) = Some line
line_in_paths (paths.BadHeader line) = Some line
line_in_paths (paths.RepeatedList line) = Some line
line_in_paths paths.MissingSolution = None
line_in_paths (paths.BadTime line) = Some line
line_in_paths (paths.BadAgent line) = Some line
line_in_paths (paths.BadPath line) = Some line
line_in_paths (paths.BadCell line cell) = Some line
line_in_paths (paths.NoCells line) = Some line
line_in_paths (paths.CellCount line) = Some line
line_in_paths (paths.TooManyAgents line) = Some line
line_in_paths (paths.BadMove line time) = Some line
line_in_paths (paths.BadJson line column) = Some line
line_in_paths paths.TurningRobots = None
line_in_paths paths.OtherModel = None
line_in_paths (paths.BadMember member) = None
line_in_paths (paths.BadStart agent) = None
line_in_paths (paths.BadAction agent time) = None
line_in_paths paths.TooManyPaths = None
line_in_paths paths.OpenQuote = None
line_in_paths paths.NoStarts = None
line_in_paths (paths.MissingAgent agent) = None
line_in_paths paths.NoPaths = None
line_in_paths (paths.BadPlace line time) = Some line
line_in_paths (paths.MissingPlace time) = None
line_in_paths paths.MissingSchedule = None
line_in_paths paths.OutOfMemory = None
