-- The edits that a text of paths asks for (this project's choice).
use Rattle.std.specs.Prelude.{ℕ, ◌+◌, Option, Some, None, Bool, true, false, List, [], ◌∷◌, ◌++◌, length, slice_get, take, if◌then◌else◌}
use Rattle.std.specs.Option.{option_and_then, option_or}
use Rattle.grid_cells.specs.Cell.{Point}
use Rattle.plan_table.specs.Path.{last_index}
use Rattle.scene_edits.specs.Scene.{SceneState, start_of}
use Rattle.scene_edits.specs.declared.edits.Edit.{Edit}
use Rattle.scene_edits.specs.declared.edits.Edit.TheVariants.{Add, Drop, Goal, Path, Tail, Open, Close}
use Rattle.path_files.specs.Moves.{is_relative, set_out}
use Rattle.path_files.specs.declared.paths.SolverPaths.{SolverPaths}

-- a path of moves set out from its agent's start, where there is one
abbrev pub begun_path : Option Point → List Point → List Point
begun_path (Some start) path = set_out start path
begun_path None path = path

-- those of the agents from that one on
abbrev pub begun_from : SceneState → ℕ → List (List Point) → List (List Point)
begun_from scene agent [] = []
begun_from scene agent (path ∷ paths) = begun_path (start_of scene agent) path ∷ begun_from scene (agent + 1) paths

-- what a text spells, where paths of moves begin at their agents' starts
abbrev pub begun : SceneState → SolverPaths → SolverPaths
begun scene spelled = if is_relative spelled.form then record spelled { paths = begun_from scene 0 spelled.paths } else spelled

-- an agent's cell in a list of the text's where that has one, else the cell of its path at that index
abbrev pub cell_given : Option (List Point) → ℕ → List Point → ℕ → Option Point
cell_given listed agent path at = option_or (option_and_then (λ cells. slice_get cells agent) listed) (slice_get path at)

-- where the agent with that path starts: where the text says, or where its path begins
abbrev pub start_in : SolverPaths → ℕ → List Point → Option Point
start_in spelled agent path = cell_given spelled.starts agent path 0

-- its goal: what the text says, or where its path ends
abbrev pub goal_in : SolverPaths → ℕ → List Point → Option Point
goal_in spelled agent path = cell_given spelled.goals agent path (last_index path)

-- the agent is added, where it has a start and a goal
abbrev pub add_given : ℕ → Option Point → Option Point → List Edit
add_given agent (Some start) (Some goal) = Add agent start goal ∷ []
add_given agent (Some start) None = []
add_given agent None goal = []

-- the agents of these paths are added, which are of agents from that one on
abbrev pub adds_from : SolverPaths → ℕ → List (List Point) → List Edit
adds_from spelled agent [] = []
adds_from spelled agent (path ∷ paths) = add_given agent (start_in spelled agent path) (goal_in spelled agent path) ++ adds_from spelled (agent + 1) paths

-- the agents are added
abbrev pub adds_of : SolverPaths → List Edit
adds_of spelled = adds_from spelled 0 spelled.paths

-- the agents from that one on are given these paths
abbrev pub paths_from : ℕ → List (List Point) → List Edit
paths_from agent [] = []
paths_from agent (path ∷ paths) = Path agent path ∷ paths_from (agent + 1) paths

-- what the text asks for: its paths, and on a bare map its agents before them
abbrev pub edits_of : Bool → SolverPaths → List Edit
edits_of true spelled = adds_of spelled ++ paths_from 0 spelled.paths
edits_of false spelled = paths_from 0 spelled.paths

-- what the text spells of the agents that there are: on a bare map of all, else of those of the scene
abbrev pub of_agents : (bare : Bool) → SceneState → SolverPaths → SolverPaths
of_agents true scene spelled = spelled
of_agents false scene spelled = record spelled { paths = take (length scene.rows) spelled.paths }

-- and what it asks for of them
abbrev pub edits_within : (bare : Bool) → SceneState → SolverPaths → List Edit
edits_within bare scene spelled = edits_of bare (of_agents bare scene spelled)

-- the edit adds an agent or gives one a path
abbrev pub IsOfPaths : Edit → Type 0
IsOfPaths (Add agent start goal) = Unit {0}
IsOfPaths (Path agent cells) = Unit {0}
IsOfPaths (Drop agent) = ⊥
IsOfPaths (Goal agent goal) = ⊥
IsOfPaths (Tail agent from cells) = ⊥
IsOfPaths (Open cell) = ⊥
IsOfPaths (Close cell) = ⊥
