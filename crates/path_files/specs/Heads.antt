-- The lines before the paths, of which LaCAM's and PIBT's programs print `key=value`.
-- Of these, `starts=`, `goals=` and `agents=` are read, and `solved=0`: the solver found no paths.
use Rattle.std.specs.Prelude.{ℕ, true, false, Option, Some, None, Result, Ok, Err, List, codes, bytes_eq, is_some, if◌then◌else◌}
use Rattle.std.specs.Option.{option_map_or}
use Rattle.bench_reader.specs.Words.{number_of}
use Rattle.grid_cells.specs.Cell.{Point}
use Rattle.path_files.specs.Answers.{and_then}
use Rattle.path_files.specs.Lines.{behind, behind_blanks}
use Rattle.path_files.specs.Rows.{row_in_line}
use Rattle.path_files.specs.declared.faults.PathsFault.{PathsFault}
use Rattle.path_files.specs.declared.faults.PathsFault.TheVariants.{RepeatedList, BadHeader}
use Rattle.path_files.specs.declared.heads.Head.{Head}

abbrev pub no_head : Head
no_head = record { starts = None; goals = None; agents = None; unsolved = false }

-- a list of that line, where the head doesn't have it yet
abbrev pub list_of : Option (List Point) → ℕ → List ℕ → Result (List Point) PathsFault
list_of list line text = if is_some list then Err (RepeatedList line) else row_in_line line None text

-- the head with the starts, or with the goals, of that line
abbrev pub with_starts : Head → ℕ → List ℕ → Result Head PathsFault
with_starts head line text = and_then (list_of head.starts line text) (λ starts. Ok (record head { starts = Some starts }))

abbrev pub with_goals : Head → ℕ → List ℕ → Result Head PathsFault
with_goals head line text = and_then (list_of head.goals line text) (λ goals. Ok (record head { goals = Some goals }))

-- the head with the number of agents of that line
abbrev pub with_agents : Head → ℕ → List ℕ → Result Head PathsFault
with_agents head line text =
    if is_some head.agents then Err (RepeatedList line) else
    option_map_or (λ agents. Ok (record head { agents = Some agents })) (number_of (behind_blanks text)) (Err (BadHeader line))

-- the head with one more line
abbrev pub with_line : Head → ℕ → List ℕ → Result Head PathsFault
with_line head line bytes =
    option_map_or (with_starts head line) (behind (codes "starts=") bytes)
    (option_map_or (with_goals head line) (behind (codes "goals=") bytes)
    (option_map_or (with_agents head line) (behind (codes "agents=") bytes)
    (if bytes_eq bytes (codes "solved=0") then Ok (record head { unsolved = true }) else Ok head)))
