-- The statuses of the program (this project's choice).
use Rattle.std.specs.Prelude.{ℕ, Bool, true, false, Result, Ok, Err}
use Rattle.mapf_desk.specs.declared.statuses.RunEnd.{RunEnd}
use Rattle.mapf_desk.specs.declared.statuses.RunEnd.TheVariants.{Yes, No, Faulty}

-- 0 where the answer is yes, 1 where it is no, 2 at a fault
abbrev pub status : RunEnd → ℕ
status Yes = 0
status No = 1
status Faulty = 2

-- of a run: that of its end, or 2 at a fault
abbrev pub run_status : {E : Type 0} → Result RunEnd E → ℕ
run_status (Ok end) = status end
run_status (Err fault) = 2

abbrev pub answered : Bool → RunEnd
answered true = Yes
answered false = No

-- a session had a fault, or the answer is whether the reports are the same
abbrev pub host_end : (any_fault same : Bool) → RunEnd
host_end true same = Faulty
host_end false same = answered same
