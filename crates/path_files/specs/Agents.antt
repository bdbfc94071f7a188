-- Paths by agent, as the programs of CBS, EECBS, PBS and MAPF-LNS2 print them.
-- A line `Agent N: (row,column)->(row,column)->..` for each agent.
use Rattle.std.specs.Prelude.{ℕ, nat_le, Option, Some, None, Result, Ok, Err, List, ◌==◌, length, codes, if◌then◌else◌}
use Rattle.std.specs.Option.{option_and_then, option_map_or}
use Rattle.grid_cells.specs.Cell.{Point}
use Rattle.scene_edits.specs.declared.scenes.TheConstants.{MOST_AGENTS}
use Rattle.path_files.specs.Answers.{and_then, unless}
use Rattle.path_files.specs.Lines.{behind, numbered}
use Rattle.path_files.specs.Cells.{cells_listed}
use Rattle.path_files.specs.declared.faults.PathsFault.{PathsFault}
use Rattle.path_files.specs.declared.faults.PathsFault.TheVariants.{BadAgent, NoCells, TooManyAgents}
use Rattle.path_files.specs.declared.cells.Notation.TheVariants.{Arrows}

-- the agent N, and what stands behind `Agent N:`
abbrev pub agent_told : List ℕ → Option (ℕ × List ℕ)
agent_told line = option_and_then numbered (behind (codes "Agent ") line)

-- the fault of a path of so many cells
abbrev pub path_fault : ℕ → ℕ → Option PathsFault
path_fault line cells = if cells == 0 then Some (NoCells line) else None

-- the path of those cells
abbrev pub path_behind : ℕ → List ℕ → Result (List Point) PathsFault
path_behind line cells = and_then (cells_listed Arrows line cells) (λ path. unless (path_fault line (length path)) path)

-- the path of that agent, whose cells stand there
abbrev pub path_of : ℕ → ℕ → List ℕ → Result (ℕ × List Point) PathsFault
path_of agent line cells = if nat_le MOST_AGENTS agent then Err (TooManyAgents line) else and_then (path_behind line cells) (λ path. Ok (agent, path))

-- the agent of a line, and its path
abbrev pub path_at : ℕ → List ℕ → Result (ℕ × List Point) PathsFault
path_at line bytes = option_map_or (λ told. path_of told.0 line told.1) (agent_told bytes) (Err (BadAgent line))
