-- Where an agent of a file of paths is to start (this project's choice).
use Rattle.std.specs.Prelude.{◌≡◌, ℕ, List, Option, Some, None, Ok, option_map, option_and_then, slice_get}
use Rattle.grid_cells.specs.Cell.{Point}
use Rattle.grid_cells.specs.Grid.{Chart}
use Rattle.bench_reader.specs.MapFaults.{IsMapAnswer}
use Rattle.bench_reader.specs.ScenFaults.{IsScenAnswer}
use Rattle.bench_reader.specs.declared.tasks.Task.{Task}
use Rattle.path_files.specs.declared.paths.SolverPaths.{SolverPaths}

-- at the start of its task, where there is a scenario, else where the text of paths has it
abbrev pub IsStartOf : List ℕ → Option (List ℕ) → SolverPaths → ℕ → Point → Type 0
IsStartOf map None spelled agent start = option_and_then (λ cells. slice_get cells agent) spelled.starts ≡ Some start
IsStartOf map (Some scen) spelled agent start =
    (grid : Chart) × IsMapAnswer map (Ok grid)
    × ((tasks : List Task) × IsScenAnswer grid.size scen (Ok tasks) × (option_map (λ task. task.start) (slice_get tasks agent) ≡ Some start))
