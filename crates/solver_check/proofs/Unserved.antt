-- Which faults of a run are the source's or the sink's: none of its files, and a session's as they are.
use Rattle.std.proofs.Common.{◌≡◌, ℕ, List, Option, Some, None, Err, false, inl, inr, refl, sym, subst}
use Rattle.bench_reader.specs.declared.maps.MapFault.{MapFault}
use Rattle.bench_reader.specs.declared.maps.MapFault.TheVariants as map
use Rattle.bench_reader.specs.declared.scens.ScenFault.{ScenFault}
use Rattle.bench_reader.specs.declared.scens.ScenFault.TheVariants as scen
use Rattle.scene_edits.specs.declared.tasks.TaskFault.{TaskFault}
use Rattle.scene_edits.specs.declared.tasks.TaskFault.TheVariants as tasks
use Rattle.desk_commits.specs.declared.journals.ReplayFault.{ReplayFault}
use Rattle.desk_commits.specs.declared.journals.ReplayFault.TheVariants as replay
use Rattle.journal_text.specs.declared.faults.JournalFault.{JournalFault}
use Rattle.journal_text.specs.declared.faults.JournalFault.TheVariants as journal
use Rattle.session_protocol.specs.Session.{is_read_failed, is_write_failed}
use Rattle.session_protocol.specs.Start.{StopsInMap}
use Rattle.session_protocol.specs.declared.bounds.ServeFault.{ServeFault}
use Rattle.session_protocol.specs.declared.bounds.ServeFault.TheVariants as session
use Rattle.solver_check.specs.Faults.{as_told, is_of_source, is_of_sink}
use Rattle.solver_check.specs.Opens.{IsOpenFault}
use Rattle.solver_check.specs.declared.faults.RunFault.{RunFault}
use Rattle.solver_check.specs.declared.faults.RunFault.TheVariants.{Map, Scen, Tasks, Journal, Replay, Serve}

-- a fault that neither the source nor the sink has
abbrev pub IsUnserved : RunFault → Type 0
IsUnserved fault = (is_of_source fault ≡ false) × (is_of_sink fault ≡ false)

map_unserved : (why : MapFault) → IsUnserved (as_told (Map why))
map_unserved map.NotOctile = (refl, refl)
map_unserved (map.BadHeader line) = (refl, refl)
map_unserved map.BadSize = (refl, refl)
map_unserved (map.MissingRow row) = (refl, refl)
map_unserved (map.ShortRow row) = (refl, refl)
map_unserved (map.LongRow row) = (refl, refl)
map_unserved (map.BadLetter row col) = (refl, refl)
map_unserved (map.ExtraLine line) = (refl, refl)
map_unserved map.OutOfMemory = (refl, refl)

scen_unserved : (why : ScenFault) → IsUnserved (as_told (Scen why))
scen_unserved scen.BadVersion = (refl, refl)
scen_unserved (scen.FieldCount line) = (refl, refl)
scen_unserved (scen.BadNumber line field) = (refl, refl)
scen_unserved (scen.SizeMismatch line) = (refl, refl)
scen_unserved (scen.OutOfMap line field) = (refl, refl)
scen_unserved scen.OutOfMemory = (refl, refl)

tasks_unserved : (why : TaskFault) → IsUnserved (as_told (Tasks why))
tasks_unserved (tasks.TooFewTasks have) = (refl, refl)
tasks_unserved tasks.TooManyAgents = (refl, refl)
tasks_unserved (tasks.OutOfMap task) = (refl, refl)
tasks_unserved tasks.OutOfMemory = (refl, refl)

pub journal_unserved : (why : JournalFault) → IsUnserved (as_told (Journal why))
journal_unserved (journal.BadLine line) = (refl, refl)
journal_unserved journal.OutOfMemory = (refl, refl)

pub replay_unserved : (why : ReplayFault) → IsUnserved (as_told (Replay why))
replay_unserved replay.ModeDiffers = (refl, refl)
replay_unserved (replay.Refused entry refusal) = (refl, refl)
replay_unserved replay.OutOfMemory = (refl, refl)

pub as_unserved : (told fault : RunFault) → fault ≡ told → IsUnserved told → IsUnserved fault
as_unserved told fault same unserved = subst IsUnserved (sym same) unserved

-- the faults of a scene that doesn't open
pub scene_unserved : (text : List ℕ) (scen : Option (List ℕ)) (agents : ℕ) (fault : RunFault) → IsOpenFault text scen agents fault → IsUnserved fault
scene_unserved text None agents fault f = as_unserved _ fault f.told (map_unserved f.why)
scene_unserved text (Some scen) agents fault (inl f) = as_unserved _ fault f.told (map_unserved f.why)
scene_unserved text (Some scen) agents fault (inr (inl f)) = as_unserved _ fault f.told (scen_unserved f.why)
scene_unserved text (Some scen) agents fault (inr (inr f)) = as_unserved _ fault f.told (tasks_unserved f.why)

-- the faults of a session are told as they are
pub session_told : (why : ServeFault) → (is_of_source (as_told (Serve why)) ≡ is_read_failed {T = ℕ} (Err why)) × (is_of_sink (as_told (Serve why)) ≡ is_write_failed {T = ℕ} (Err why))
session_told session.ReadFailed = (refl, refl)
session_told session.WriteFailed = (refl, refl)
session_told session.TooManyLines = (refl, refl)
session_told session.TooManyBytes = (refl, refl)
session_told session.OutOfMemory = (refl, refl)

-- nothing is written before the map's text came whole
pub map_unwritten : (left0 left1 : Option (List ℕ)) (most : ℕ) (why : ServeFault) → StopsInMap left0 left1 most why → is_of_sink (as_told (Serve why)) ≡ false
map_unwritten left0 left1 most session.ReadFailed stops = refl
map_unwritten left0 left1 most session.WriteFailed stops = absurd stops
map_unwritten left0 left1 most session.TooManyLines stops = refl
map_unwritten left0 left1 most session.TooManyBytes stops = refl
map_unwritten left0 left1 most session.OutOfMemory stops = refl
