-- Paths that a text tells one by one, in any order: by agent, or as lines of a session.
-- Agents are numbered from 0, or from 1 where none has the number 0; each of them has one path.
use Rattle.std.specs.Prelude.{ℕ, ◌+◌, ◌-◌, Bool, Option, Some, None, Result, Ok, Err, List, [], ◌∷◌, ◌++◌, ◌==◌, length, slice_get, slice_set, replicate, is_some, if◌then◌else◌}
use Rattle.std.specs.Option.{option_and_then}
use Rattle.grid_cells.specs.Cell.{Point}
use Rattle.session_lines.specs.Requests.{request_of}
use Rattle.path_files.specs.Answers.{and_then}
use Rattle.path_files.specs.Lines.{Line}
use Rattle.path_files.specs.Forms.{is_of_paths, has_paths}
use Rattle.path_files.specs.Agents.{path_at}
use Rattle.path_files.specs.Sessions.{path_in}
use Rattle.path_files.specs.declared.faults.PathsFault.{PathsFault}
use Rattle.path_files.specs.declared.faults.PathsFault.TheVariants.{NoPaths, BadAgent, MissingAgent}
use Rattle.path_files.specs.declared.forms.Form.{Form}
use Rattle.path_files.specs.declared.forms.Form.TheVariants.{BySession}
use Rattle.path_files.specs.declared.paths.SolverPaths.{SolverPaths}

-- the agent and the path in a line
abbrev pub path_in_line : Form → Line → Result (ℕ × List Point) PathsFault
path_in_line BySession line = path_in line.number (request_of line.bytes)
path_in_line _ line = path_at line.number line.bytes

-- as many places as that at least, where those that weren't there have no path
abbrev pub with_places : List (Option (List Point)) → ℕ → List (Option (List Point))
with_places told count = told ++ replicate (count - length told) None

-- the agent has a path already
abbrev pub has_path : List (Option (List Point)) → ℕ → Bool
has_path told agent = is_some (option_and_then (λ place. place) (slice_get told agent))

-- each path in its agent's place, and one more, of that line
abbrev pub with_path : ℕ → List (Option (List Point)) → ℕ × List Point → Result (List (Option (List Point))) PathsFault
with_path line told path = if has_path told path.0 then Err (BadAgent line) else Ok (slice_set (with_places told (path.0 + 1)) path.0 (Some path.1))

-- the paths so far, each in its agent's place, and those of these lines
abbrev pub told_from : Form → List (Option (List Point)) → List Line → Result (List (Option (List Point))) PathsFault
told_from form told [] = Ok told
told_from form told (line ∷ lines) =
    if is_of_paths form line.bytes then
    and_then (path_in_line form line) (λ path. and_then (with_path line.number told path) (λ told. told_from form told lines))
    else if length told == 0 then told_from form told lines
    else if has_paths form lines then Err (BadAgent line.number) else Ok told

-- the paths so far, and that in the place of an agent; none has to have the number 0
abbrev pub with_place : ℕ → List (List Point) → Option (List Point) → Result (List (List Point)) PathsFault
with_place agent paths (Some path) = Ok (paths ++ path ∷ [])
with_place agent paths None = if agent == 0 then Ok paths else Err (MissingAgent agent)

-- the paths so far, and those in the places of the agents from that one on
abbrev pub all_from : ℕ → List (List Point) → List (Option (List Point)) → Result (List (List Point)) PathsFault
all_from agent paths [] = Ok paths
all_from agent paths (place ∷ told) = and_then (with_place agent paths place) (λ paths. all_from (agent + 1) paths told)

-- the paths of all agents; a text without any has no line, or its first is none of a path
abbrev pub all_told : List Line → List (Option (List Point)) → Result (List (List Point)) PathsFault
all_told [] [] = Err NoPaths
all_told (line ∷ lines) [] = Err (BadAgent line.number)
all_told lines (place ∷ told) = all_from 0 [] (place ∷ told)

-- what the lines spell
abbrev pub by_told : Form → List Line → Result SolverPaths PathsFault
by_told form lines =
    and_then (and_then (told_from form [] lines) (all_told lines))
    (λ paths. Ok (record { form = form; starts = None; goals = None; agents = None; paths = paths }))
