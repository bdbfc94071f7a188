-- Paths as lines of a session of the desk: a line `path AGENT CELL..` for each agent.
-- What a line asks for is the desk's own grammar, `request_of`.
use Rattle.std.specs.Prelude.{ℕ, nat_le, Result, Ok, Err, List, length, if◌then◌else◌}
use Rattle.grid_cells.specs.Cell.{Point}
use Rattle.scene_edits.specs.declared.scenes.TheConstants.{MOST_AGENTS}
use Rattle.scene_edits.specs.declared.edits.Edit.{Edit}
use Rattle.scene_edits.specs.declared.edits.Edit.TheVariants.{Path}
use Rattle.session_lines.specs.declared.requests.LineFault.{LineFault}
use Rattle.session_lines.specs.declared.requests.Request.{Request}
use Rattle.session_lines.specs.declared.requests.Request.TheVariants as request
use Rattle.path_files.specs.Answers.{unless}
use Rattle.path_files.specs.Agents.{path_fault}
use Rattle.path_files.specs.declared.faults.PathsFault.{PathsFault}
use Rattle.path_files.specs.declared.faults.PathsFault.TheVariants.{BadPath, TooManyAgents}

-- the agent and the path of an edit
abbrev pub path_told : ℕ → Edit → Result (ℕ × List Point) PathsFault
path_told line (Path agent path) = if nat_le MOST_AGENTS agent then Err (TooManyAgents line) else unless (path_fault line (length path)) (agent, path)
path_told line _ = Err (BadPath line)

-- the agent and the path in what a line asks for
abbrev pub path_in : ℕ → Result Request LineFault → Result (ℕ × List Point) PathsFault
path_in line (Ok (request.Edit edit)) = path_told line edit
path_in line _ = Err (BadPath line)
