-- How a line of a script was answered, by the first word of its answer (this project's choice).
use Rattle.std.specs.Prelude.{ℕ, List, Option, Some, None, codes, bytes_eq, if◌then◌else◌}
use Rattle.session_protocol.specs.Replies.{is_acceptance}
use Rattle.desk_io.specs.declared.tallies.Answered.{Answered}
use Rattle.desk_io.specs.declared.tallies.Answered.TheVariants.{Accepted, Refused, Bad}

-- the further lines of a report are no answers of their own
abbrev pub answered_by : List ℕ → Option Answered
answered_by word =
    if bytes_eq word (codes "refused") then Some Refused else
    if bytes_eq word (codes "bad") then Some Bad else
    if is_acceptance word then Some Accepted else None
