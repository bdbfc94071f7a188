-- Which paths of a text aren't any, and why: the first cell, by time, that isn't on the map, isn't the agent's start, or is no step
-- from the cell before, or stands behind the last one that a path may have (Stern et al. 2019, single-agent plans; how long a path may
-- be, and which of these comes first at one time, is this project's choice).
use Rattle.std.specs.Prelude.{ℕ, ◌+◌, ◌==◌, ◌&&◌, nat_le, nat_lt, Bool, true, false, Option, Some, None, List, [], ◌∷◌, ◌++◌, if◌then◌else◌}
use Rattle.std.specs.Option.{option_or, option_to_list}
use Rattle.grid_cells.specs.Cell.{Point, steps_between}
use Rattle.grid_cells.specs.Size.{Extent}
use Rattle.plan_table.specs.declared.paths.TheConstants.{MOST_LAST_INDEX}
use Rattle.scene_edits.specs.Scene.{SceneState, start_of}
use Rattle.path_files.specs.declared.paths.SolverPaths.{SolverPaths}
use Rattle.solver_check.specs.CheckEdits.{start_in, goal_in}
use Rattle.solver_check.specs.CheckTimes.{is_off}
use Rattle.solver_check.specs.declared.checks.wrongs.Wrong.{Wrong}
use Rattle.solver_check.specs.declared.checks.wrongs.Wrong.TheVariants.{TooLong, OutOfMap, NotFromStart, NotAStep}

abbrev pub is_same : Point → Point → Bool
is_same a b = (a.y == b.y) && (a.x == b.x)

abbrev pub is_step : Point → Point → Bool
is_step a b = nat_le (steps_between a b) 1

-- what is wrong with the cell at a time behind the one before, which at time 0 is the agent's start
abbrev pub wrong_at : Extent → ℕ → ℕ → Point → Point → Option Wrong
wrong_at size agent time before cell =
    if nat_lt MOST_LAST_INDEX time then Some (TooLong agent time cell) else
    if is_off size cell then Some (OutOfMap agent time cell) else
    if time == 0 then (if is_same before cell then None else Some (NotFromStart agent before cell)) else
    if is_step before cell then None else Some (NotAStep agent time before cell)

-- the first fault of these cells, which are those from that time on
abbrev pub wrong_from : Extent → ℕ → ℕ → Point → List Point → Option Wrong
wrong_from size agent time before [] = None
wrong_from size agent time before (cell ∷ cells) = option_or (wrong_at size agent time before cell) (wrong_from size agent (time + 1) cell cells)

-- where an agent is to start: by the scene, or on a bare map by the text
abbrev pub due_start : (bare : Bool) → SceneState → SolverPaths → ℕ → List Point → Option Point
due_start true scene spelled agent path = start_in spelled agent path
due_start false scene spelled agent path = start_of scene agent

-- the fault of a path from that start
abbrev pub path_fault : Extent → ℕ → Option Point → List Point → Option Wrong
path_fault size agent (Some start) path = wrong_from size agent 0 start path
path_fault size agent None path = None

-- the fault of a goal that isn't on the map
abbrev pub goal_fault : Extent → ℕ → Option Point → Option Wrong
goal_fault size agent (Some goal) = if is_off size goal then Some (OutOfMap agent 0 goal) else None
goal_fault size agent None = None

-- what is wrong with an agent's path or, on a bare map, with its goal
abbrev pub wrong_of : (bare : Bool) → SceneState → SolverPaths → ℕ → List Point → Option Wrong
wrong_of bare scene spelled agent path =
    option_or (path_fault scene.grid.size agent (due_start bare scene spelled agent path) path)
    (if bare then goal_fault scene.grid.size agent (goal_in spelled agent path) else None)

-- of the agents from that one on, with these paths
abbrev pub wrongs_from : (bare : Bool) → SceneState → SolverPaths → ℕ → List (List Point) → List Wrong
wrongs_from bare scene spelled agent [] = []
wrongs_from bare scene spelled agent (path ∷ paths) =
    option_to_list (wrong_of bare scene spelled agent path) ++ wrongs_from bare scene spelled (agent + 1) paths

-- the agents whose paths aren't any
abbrev pub wrongs_of : (bare : Bool) → SceneState → SolverPaths → List Wrong
wrongs_of bare scene spelled = wrongs_from bare scene spelled 0 spelled.paths
