-- Where a text of paths differs from the problem, or from itself: more or fewer paths than agents, another number of agents, lists
-- of another length than there are paths, or starts and goals that aren't those of the scenario (this project's choice).
use Rattle.std.specs.Prelude.{ℕ, ◌+◌, ◌==◌, Bool, true, false, Option, Some, None, List, [], ◌∷◌, ◌++◌, length, slice_get, if◌then◌else◌}
use Rattle.std.specs.Option.{option_map, option_and_then, option_to_list}
use Rattle.grid_cells.specs.Cell.{Point}
use Rattle.plan_table.specs.Plans.{row_of}
use Rattle.scene_edits.specs.Scene.{SceneState, start_of}
use Rattle.path_files.specs.declared.paths.SolverPaths.{SolverPaths}
use Rattle.solver_check.specs.Wrongs.{is_same}
use Rattle.solver_check.specs.declared.checks.differences.Difference.{Difference}
use Rattle.solver_check.specs.declared.checks.differences.Difference.TheVariants.{Paths, Agents, Starts, Goals, Start, Goal}

-- an agent's cell in a list of the text's
abbrev pub listed_for : Option (List Point) → ℕ → Option Point
listed_for list agent = option_and_then (λ cells. slice_get cells agent) list

abbrev pub goal_of : SceneState → ℕ → Option Point
goal_of scene agent = option_map (λ row. row.goal) (row_of scene.rows agent)

-- the starts, or the goals, where they aren't one
abbrev pub start_apart : ℕ → (listed due : Option Point) → Option Difference
start_apart agent (Some listed) (Some due) = if is_same listed due then None else Some (Start agent listed due)
start_apart agent None due = None
start_apart agent (Some listed) None = None

abbrev pub goal_apart : ℕ → (listed due : Option Point) → Option Difference
goal_apart agent (Some listed) (Some due) = if is_same listed due then None else Some (Goal agent listed due)
goal_apart agent None due = None
goal_apart agent (Some listed) None = None

-- an agent's start and goal, where they are listed otherwise than the scene has them
abbrev pub ends_apart : SceneState → SolverPaths → ℕ → List Difference
ends_apart scene spelled agent =
    option_to_list (start_apart agent (listed_for spelled.starts agent) (start_of scene agent))
    ++ option_to_list (goal_apart agent (listed_for spelled.goals agent) (goal_of scene agent))

-- of the agents from that one on, with these paths
abbrev pub ends_from : SceneState → SolverPaths → ℕ → List (List Point) → List Difference
ends_from scene spelled agent [] = []
ends_from scene spelled agent (path ∷ paths) = ends_apart scene spelled agent ++ ends_from scene spelled (agent + 1) paths

-- how many agents there are: those of the tasks, or on a bare map one for each path
abbrev pub agents_due : (bare : Bool) → SceneState → SolverPaths → ℕ
agents_due true scene spelled = length spelled.paths
agents_due false scene spelled = length scene.rows

-- how many paths and agents there are, where they aren't as many
abbrev pub paths_apart : (paths agents : ℕ) → Option Difference
paths_apart paths agents = if paths == agents then None else Some (Paths paths agents)

-- the number of agents that the text tells, where it is another
abbrev pub agents_apart : Option ℕ → ℕ → Option Difference
agents_apart (Some listed) agents = if listed == agents then None else Some (Agents listed agents)
agents_apart None agents = None

-- how many starts, or goals, are listed, where there are not as many as paths
abbrev pub starts_uneven : Option (List Point) → ℕ → Option Difference
starts_uneven (Some starts) paths = if length starts == paths then None else Some (Starts (length starts) paths)
starts_uneven None paths = None

abbrev pub goals_uneven : Option (List Point) → ℕ → Option Difference
goals_uneven (Some goals) paths = if length goals == paths then None else Some (Goals (length goals) paths)
goals_uneven None paths = None

-- the numbers that differ: of paths, of agents, of starts and of goals
abbrev pub counts_apart : (bare : Bool) → SceneState → SolverPaths → List Difference
counts_apart bare scene spelled =
    option_to_list (paths_apart (length spelled.paths) (agents_due bare scene spelled))
    ++ (option_to_list (agents_apart spelled.agents (agents_due bare scene spelled))
    ++ (option_to_list (starts_uneven spelled.starts (length spelled.paths))
    ++ option_to_list (goals_uneven spelled.goals (length spelled.paths))))

-- where a text differs from the scene of the map and the tasks
abbrev pub differences_of : (bare : Bool) → SceneState → SolverPaths → List Difference
differences_of bare scene spelled = counts_apart bare scene spelled ++ ends_from scene spelled 0 spelled.paths
