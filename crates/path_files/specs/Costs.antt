-- The costs that a text states before its paths: `soc=` and `makespan=`, as LaCAM's and PIBT's programs do, or `cost:` and `makespan:`, as
-- libMultiRobotPlanning's do, where a number stands behind these.
use Rattle.std.specs.Prelude.{ℕ, Bool, ◌&&◌, not, Option, None, List, [], ◌∷◌, codes, is_some, if◌then◌else◌}
use Rattle.std.specs.Option.{option_and_then, option_or}
use Rattle.bench_reader.specs.Lines.{lines_of}
use Rattle.bench_reader.specs.Words.{number_of}
use Rattle.path_files.specs.Forms.{told_by}
use Rattle.path_files.specs.Lines.{Line, behind, behind_blanks, without_mark, written_from}
use Rattle.path_files.specs.ScheduleLines.{is_statistics}
use Rattle.path_files.specs.declared.costs.Costs.{Costs}

abbrev pub no_costs : Costs
no_costs = record { soc = None; makespan = None }

-- the number behind a key
abbrev pub cost_behind : List ℕ → List ℕ → Option ℕ
cost_behind key line = option_and_then (λ text. number_of (behind_blanks text)) (behind key line)

-- the number behind one of two keys
abbrev pub cost_told : List ℕ → List ℕ → List ℕ → Option ℕ
cost_told key other line = option_or (cost_behind key line) (cost_behind other line)

-- with those of one more line, which count where none was stated before
abbrev pub with_costs : Costs → List ℕ → Costs
with_costs costs line = record {
  soc = option_or costs.soc (cost_told (codes "soc=") (codes "cost:") line);
  makespan = option_or costs.makespan (cost_told (codes "makespan=") (codes "makespan:") line);
}

-- the paths begin with that line: it tells their form, and not by the statistics before them
abbrev pub begins_paths : List ℕ → Bool
begins_paths line = is_some (told_by line) && not (is_statistics line)

-- the costs so far, and those of these lines up to the first of the paths
abbrev pub costs_from : Costs → List Line → Costs
costs_from costs [] = costs
costs_from costs (line ∷ lines) = if begins_paths line.bytes then costs else costs_from (with_costs costs line.bytes) lines

abbrev pub costs_of : List ℕ → Costs
costs_of text = costs_from no_costs (written_from 1 (lines_of (without_mark text)))
