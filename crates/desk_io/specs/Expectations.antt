-- What should stand in the line of a file of paths that a fault is about (this project's choice).
use Rattle.std.specs.Prelude.{ℕ, List, codes}
use Rattle.path_files.specs.declared.faults.PathsFault.{PathsFault}
use Rattle.path_files.specs.declared.faults.PathsFault.TheVariants as paths

abbrev pub expected_text : PathsFault → List ℕ
expected_text (paths.NoForm line) = codes "0:(X,Y),.., Agent 0: (ROW,COLUMN)->.., path 0 X,Y .., {JSON}, schedule: or moves udlrw"
expected_text (paths.BadHeader line) = codes "a number of agents"
expected_text (paths.RepeatedList line) = codes "that once"
expected_text (paths.BadTime line) = codes "the next time T, as T:(X,Y),(X,Y),.."
expected_text (paths.BadAgent line) = codes "Agent N: (ROW,COLUMN)->.. or agentN:, each N once"
expected_text (paths.BadPath line) = codes "path AGENT X,Y X,Y .."
expected_text (paths.BadCell line cell) = codes "a cell, as (3,0)"
expected_text (paths.BadMove line time) = codes "u, d, l, r or w"
expected_text (paths.BadJson line column) = codes "JSON"
expected_text (paths.NoCells line) = codes "a cell at least"
expected_text (paths.CellCount line) = codes "as many cells as at time 0"
expected_text (paths.TooManyAgents line) = codes "8192 agents at most"
expected_text (paths.BadPlace line time) = codes "a line each of - x: X, y: Y and t: T, the next time"
expected_text other = codes "a path"
