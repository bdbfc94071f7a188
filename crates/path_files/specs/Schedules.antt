-- Paths as a schedule, as libMultiRobotPlanning's programs write it: the YAML that these print, and no other.
-- `schedule:`, and then of each agent a line `agentN:` and its places at times 0, 1, ..: the lines `- x: COLUMN`, `y: ROW` and `t: TIME` in
-- any order, the first with the dash. Before `schedule:` and behind the last place other lines may stand, as `statistics:` and its own.
use Rattle.std.specs.Prelude.{ℕ, ◌||◌, not, is_none, Option, None, Result, Ok, Err, List, [], ◌∷◌, if◌then◌else◌}
use Rattle.grid_cells.specs.Cell.{Point}
use Rattle.path_files.specs.Answers.{and_then}
use Rattle.path_files.specs.Lines.{Line}
use Rattle.path_files.specs.Forms.{is_of_paths, has_paths}
use Rattle.path_files.specs.ScheduleLines.{begins_schedule}
use Rattle.path_files.specs.ScheduleSteps.{may_end, no_schedule, schedule_with}
use Rattle.path_files.specs.Told.{all_told}
use Rattle.path_files.specs.declared.faults.PathsFault.{PathsFault}
use Rattle.path_files.specs.declared.faults.PathsFault.TheVariants.{BadAgent, BadPlace, MissingPlace, MissingSchedule}
use Rattle.path_files.specs.declared.forms.Form.TheVariants.{BySchedule}
use Rattle.path_files.specs.declared.paths.SolverPaths.{SolverPaths}
use Rattle.path_files.specs.declared.schedule_steps.Schedule.{Schedule}

-- the fault of a line that is none of the schedule's, where such come behind it
abbrev pub stray_line : Schedule → ℕ → PathsFault
stray_line schedule line = if is_none schedule.agent then BadAgent line else BadPlace line schedule.time

-- the schedule so far, and what these lines tell of it; the lines behind the last of its are none of its
abbrev pub schedule_from : Schedule → List Line → Result (List (Option (List Point))) PathsFault
schedule_from schedule [] = if may_end schedule then Ok schedule.told else Err (MissingPlace schedule.time)
schedule_from schedule (line ∷ lines) =
    if not (may_end schedule) || is_of_paths BySchedule line.bytes then
    and_then (schedule_with schedule line.number line.bytes) (λ more. schedule_from more lines)
    else if has_paths BySchedule lines then Err (stray_line schedule line.number) else Ok schedule.told

-- the paths of these lines
abbrev pub schedule_of : List Line → Result SolverPaths PathsFault
schedule_of lines =
    and_then (and_then (schedule_from no_schedule lines) (all_told []))
    (λ paths. Ok (record { form = BySchedule; starts = None; goals = None; agents = None; paths = paths }))

-- what a text's lines spell
abbrev pub by_schedule : List Line → Result SolverPaths PathsFault
by_schedule [] = Err MissingSchedule
by_schedule (line ∷ lines) = if begins_schedule line.bytes then schedule_of lines else by_schedule lines
