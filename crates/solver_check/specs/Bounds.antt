-- The bounds of a run (this project's choice).
use Rattle.session_protocol.specs.declared.bounds.Bounds.{Bounds}
use Rattle.solver_check.specs.declared.bounds.TheConstants.{MOST_BYTES, MOST_HOSTED_BYTES, MOST_HOSTED_LINES, MOST_LINES}

-- each session has so many lines and bytes at most
abbrev pub run_bounds : Bounds
run_bounds = record { lines = MOST_LINES; bytes = MOST_BYTES }

-- the session of a planner who is hosted has so many lines and bytes at most
abbrev pub seat_bounds : Bounds
seat_bounds = record { lines = MOST_HOSTED_LINES; bytes = MOST_HOSTED_BYTES }
