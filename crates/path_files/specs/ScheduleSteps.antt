-- What is told of a schedule, line by line.
use Rattle.std.specs.Prelude.{ℕ, ◌+◌, ◌<◌, ◌≤◌, ◌||◌, ◌&&◌, not, nat_lt, nat_le, Bool, Option, Some, None, Result, Ok, Err, List, [], ◌∷◌, ◌++◌, length, slice_get, slice_set, is_none, IfSome, unwrap_or, if◌then◌else◌}
use Rattle.std.specs.Option.{option_and_then, option_map_or}
use Rattle.grid_cells.specs.Cell.{Point}
use Rattle.scene_edits.specs.declared.scenes.TheConstants.{MOST_AGENTS}
use Rattle.path_files.specs.Answers.{and_then}
use Rattle.path_files.specs.ScheduleLines.{agent_named, cell_at, is_begun, no_spot, spot_with}
use Rattle.path_files.specs.Told.{with_path}
use Rattle.path_files.specs.declared.faults.PathsFault.{PathsFault}
use Rattle.path_files.specs.declared.faults.PathsFault.TheVariants.{BadAgent, BadPlace, TooManyAgents}
use Rattle.path_files.specs.declared.schedule_lines.Spot.{Spot}
use Rattle.path_files.specs.declared.schedule_steps.Schedule.{Schedule}

abbrev pub no_schedule : Schedule
no_schedule = record { told = []; agent = None; time = 0; spot = no_spot }

-- there are no more agents than there may be, and the one whose places come has a path among theirs
abbrev pub IsWithin : Schedule → Type 0
IsWithin schedule = (length schedule.told ≤ MOST_AGENTS) × IfSome schedule.agent (λ agent. agent < length schedule.told)

-- it may end here: no place is begun, and the agent has one
abbrev pub may_end : Schedule → Bool
may_end schedule = not (is_begun schedule.spot) && (is_none schedule.agent || nat_lt 0 schedule.time)

-- the paths, where the agent's goes on with a cell
abbrev pub with_cell : List (Option (List Point)) → ℕ → Point → List (Option (List Point))
with_cell told agent cell =
    slice_set told agent (Some (unwrap_or (option_and_then (λ place. place) (slice_get told agent)) [] ++ cell ∷ []))

-- with what is told of the agent's next place
abbrev pub with_spot : Schedule → ℕ → Spot → Schedule
with_spot schedule agent spot =
    option_map_or (λ cell. record schedule { told = with_cell schedule.told agent cell; time = schedule.time + 1; spot = no_spot })
    (cell_at spot) (record schedule { spot = spot })

-- with a line of a place: another than the due one is a fault
abbrev pub with_place_line : Schedule → ℕ → List ℕ → Result Schedule PathsFault
with_place_line schedule line bytes =
    option_map_or
    (λ agent. option_map_or (λ spot. Ok (with_spot schedule agent spot)) (spot_with schedule.time schedule.spot bytes) (Err (BadPlace line schedule.time)))
    schedule.agent (Err (BadAgent line))

-- with a line of an agent, which has no path yet; its places come
abbrev pub with_agent : Schedule → ℕ → ℕ → Result Schedule PathsFault
with_agent schedule line agent =
    if not (may_end schedule) then Err (BadPlace line schedule.time) else
    if nat_le MOST_AGENTS agent then Err (TooManyAgents line) else
    and_then (with_path line schedule.told (agent, []))
    (λ told. Ok (record { told = told; agent = Some agent; time = 0; spot = no_spot }))

-- with one more line
abbrev pub schedule_with : Schedule → ℕ → List ℕ → Result Schedule PathsFault
schedule_with schedule line bytes = option_map_or (with_agent schedule line) (agent_named bytes) (with_place_line schedule line bytes)
