-- Paths as JSON (RFC 8259), as the League of Robot Runners and PlanViz write it where robots don't turn: an object with the members
-- `start`, for each robot a list of its row and its column, `actualPaths` or else `plannerPaths`, for each a text of moves, and maybe
-- `teamSize` and `actionModel`. Others say nothing here. Of members of one name the last one counts.
use Rattle.std.specs.Prelude.{ℕ, ◌^◌, ◌==◌, nat_lt, nat_le, Option, Some, None, Result, Ok, Err, List, [], ◌∷◌, ◌++◌, length, codes, bytes_eq, false, is_some, unwrap_or, if◌then◌else◌}
use Rattle.std.specs.List.{slice_get}
use Rattle.std.specs.Option.{option_and_then, option_map_or, option_or}
use Rattle.std.specs.Str.{is_utf8}
use Rattle.serde_json.specs.Data.{Data, Items, no_items, item}
use Rattle.serde_json.specs.Find.{as_array, as_number, as_object, as_str, as_u64, at, get}
use Rattle.serde_json.specs.Read.{read}
use Rattle.grid_cells.specs.Cell.{Point, point}
use Rattle.grid_cells.specs.declared.sizes.TheConstants.{MOST_SIDE}
use Rattle.scene_edits.specs.declared.scenes.TheConstants.{MOST_AGENTS}
use Rattle.path_files.specs.Answers.{and_then, unless}
use Rattle.path_files.specs.Broken.{broken_in}
use Rattle.path_files.specs.Moves.{path_from}
use Rattle.path_files.specs.declared.faults.Member.TheVariants as members
use Rattle.path_files.specs.declared.faults.PathsFault.{PathsFault}
use Rattle.path_files.specs.declared.faults.PathsFault.TheVariants.{BadAction, BadMember, BadMove, BadStart, NoPaths, OtherModel, TooManyPaths, TurningRobots}
use Rattle.path_files.specs.declared.forms.Form.TheVariants.{ByJson}
use Rattle.path_files.specs.declared.paths.SolverPaths.{SolverPaths}

-- what a text in UTF-8 says as JSON
abbrev pub data_in : List ℕ → Option Data
data_in text = if is_utf8 text then read text else None

-- the object that it is
abbrev pub object_in : List ℕ → Option Data
object_in text = option_and_then (λ value. if is_some (as_object value) then Some value else None) (data_in text)

-- the fault of an action model by name: that where robots turn, or another one that isn't known
abbrev pub model_fault : Option (List ℕ) → Option PathsFault
model_fault None = Some OtherModel
model_fault (Some name) = if bytes_eq name (codes "MAPF") then None else if bytes_eq name (codes "MAPF_T") then Some TurningRobots else Some OtherModel

-- the fault of the action model that an object tells
abbrev pub model_fault_in : Data → Option PathsFault
model_fault_in value = option_map_or (λ model. model_fault (as_str model)) (get (codes "actionModel") value) None

abbrev pub number_below : ℕ → Data → Option ℕ
number_below bound value = option_and_then (λ number. if nat_lt number bound then Some number else None) (option_and_then as_u64 (as_number value))

-- how many robots an object tells
abbrev pub team_size : Option Data → Result (Option ℕ) PathsFault
team_size None = Ok None
team_size (Some value) = option_map_or (λ agents. Ok (Some agents)) (number_below (2 ^ 32) value) (Err (BadMember members.TeamSize))

-- a row or a column
abbrev pub place_at : ℕ → Data → Option ℕ
place_at index value = option_and_then (number_below MOST_SIDE) (at index value)

-- a list of a row and a column; what stands behind these, as which way a robot looks, says nothing here
abbrev pub cell_in : Data → Option Point
cell_in value = option_and_then (λ row. option_and_then (λ column. Some (point column row)) (place_at 1 value)) (place_at 0 value)

-- the starts so far, and those of these items
abbrev pub starts_from : List Point → Items → Result (List Point) PathsFault
starts_from starts no_items = Ok starts
starts_from starts (item value items) =
    if nat_le MOST_AGENTS (length starts) then Err TooManyPaths else
    option_map_or (λ cell. starts_from (starts ++ cell ∷ []) items) (cell_in value) (Err (BadStart (length starts)))

-- the list that an object has under that name
abbrev pub list_in : List ℕ → Data → Option Items
list_in name value = option_and_then as_array (get name value)

abbrev pub starts_in : Data → Result (List Point) PathsFault
starts_in value = option_map_or (starts_from []) (list_in (codes "start") value) (Err (BadMember members.Start))

-- the moves of an agent, with their fault told of the agent
abbrev pub of_agent : ℕ → Result (List Point) PathsFault → Result (List Point) PathsFault
of_agent agent (Ok path) = Ok path
of_agent agent (Err (BadMove line time)) = Err (BadAction agent time)
of_agent agent (Err fault) = Err fault

-- an agent's path from its start; one without a start goes from the cell 0,0
abbrev pub path_of : List Point → ℕ → Data → Result (List Point) PathsFault
path_of starts agent value =
    option_map_or (λ moves. of_agent agent (path_from false agent (unwrap_or (slice_get starts agent) (point 0 0)) moves)) (as_str value)
    (Err (BadAction agent 0))

-- the paths so far, and those of these items
abbrev pub paths_from : List Point → List (List Point) → Items → Result (List (List Point)) PathsFault
paths_from starts paths no_items = if length paths == 0 then Err NoPaths else Ok paths
paths_from starts paths (item value items) =
    if nat_le MOST_AGENTS (length paths) then Err TooManyPaths else
    and_then (path_of starts (length paths) value) (λ path. paths_from starts (paths ++ path ∷ []) items)

-- the member that tells the paths: those that were gone, else those that were planned
abbrev pub told_paths : Data → Option Data
told_paths value = option_or (get (codes "actualPaths") value) (get (codes "plannerPaths") value)

abbrev pub paths_in : List Point → Data → Result (List (List Point)) PathsFault
paths_in starts value = option_map_or (paths_from starts []) (option_and_then as_array (told_paths value)) (Err (BadMember members.Paths))

-- what an object spells
abbrev pub by_members : Data → Result SolverPaths PathsFault
by_members value =
    and_then (unless (model_fault_in value) value) (λ value. and_then (team_size (get (codes "teamSize") value)) (λ agents.
    and_then (starts_in value) (λ starts. and_then (paths_in starts value) (λ paths.
    Ok (record { form = ByJson; starts = Some starts; goals = None; agents = agents; paths = paths })))))

-- what a text spells
abbrev pub by_json : List ℕ → Result SolverPaths PathsFault
by_json text = option_map_or by_members (object_in text) (Err (broken_in text))
