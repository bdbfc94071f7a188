-- The fault of a run by the fault of a part of it: want of memory is one fault, wherever it came.
use Rattle.std.specs.Prelude.{ℕ, Result, Ok, Err, Bool, true, false}
use Rattle.bench_reader.specs.declared.maps.MapFault.TheVariants as map
use Rattle.bench_reader.specs.declared.scens.ScenFault.TheVariants as scen
use Rattle.scene_edits.specs.declared.tasks.TaskFault.TheVariants as tasks
use Rattle.desk_commits.specs.declared.journals.ReplayFault.TheVariants as replay
use Rattle.journal_text.specs.declared.faults.JournalFault.TheVariants as journal
use Rattle.session_protocol.specs.declared.bounds.ServeFault.{ServeFault}
use Rattle.session_protocol.specs.declared.bounds.ServeFault.TheVariants as session
use Rattle.solver_check.specs.declared.faults.RunFault.{RunFault}
use Rattle.solver_check.specs.declared.faults.RunFault.TheVariants.{Map, Scen, Tasks, Journal, Replay, Serve, WriteFailed, OutOfMemory}

abbrev pub as_told : RunFault → RunFault
as_told (Map map.OutOfMemory) = OutOfMemory
as_told (Scen scen.OutOfMemory) = OutOfMemory
as_told (Tasks tasks.OutOfMemory) = OutOfMemory
as_told (Journal journal.OutOfMemory) = OutOfMemory
as_told (Replay replay.OutOfMemory) = OutOfMemory
as_told (Serve session.OutOfMemory) = OutOfMemory
as_told fault = fault

-- what a run answers whose session ended so
abbrev pub run_answer : Result ℕ ServeFault → Result ℕ RunFault
run_answer (Ok lines) = Ok lines
run_answer (Err why) = Err (as_told (Serve why))

-- faults of the source, and of the sink
abbrev pub is_of_source : RunFault → Bool
is_of_source (Serve session.ReadFailed) = true
is_of_source other = false

abbrev pub is_of_sink : RunFault → Bool
is_of_sink (Serve session.WriteFailed) = true
is_of_sink WriteFailed = true
is_of_sink other = false

-- the run ended by such a fault
abbrev pub is_run_read_fault : {T : Type 0} → Result T RunFault → Bool
is_run_read_fault (Ok done) = false
is_run_read_fault (Err fault) = is_of_source fault

abbrev pub is_run_write_fault : {T : Type 0} → Result T RunFault → Bool
is_run_write_fault (Ok done) = false
is_run_write_fault (Err fault) = is_of_sink fault
