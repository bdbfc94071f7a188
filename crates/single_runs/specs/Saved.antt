-- What is saved of a desk, and what comes of it (this project's choice).
use Rattle.std.specs.Prelude.{◌≡◌, ◌⊎◌, ◌≤◌, ℕ, List, Option, Some, Result, Ok, Err}
use Rattle.scene_edits.specs.Scene.{SceneState}
use Rattle.desk_commits.specs.Questions.{ShowsReport}
use Rattle.desk_commits.specs.Replays.{Log}
use Rattle.desk_commits.specs.State.{DeskState}
use Rattle.desk_commits.specs.declared.answers.Reading.{Reading}
use Rattle.journal_text.specs.Lines.{journal_text}
use Rattle.journal_text.specs.Ranges.{IsJournal}
use Rattle.session_protocol.specs.Answer.{answering_in}
use Rattle.desk_commits.specs.Counting.{desk_counting}
use Rattle.session_protocol.specs.Session.{Serves}
use Rattle.session_protocol.specs.declared.bounds.Bounds.{Bounds}
use Rattle.session_protocol.specs.declared.bounds.ServeFault.{ServeFault}
use Rattle.session_lines.specs.declared.versions.LinesVersion.{LinesVersion}
use Rattle.session_protocol.specs.declared.drafts.Session.{Session}
use Rattle.single_runs.specs.Opened.{Replays, ReplaysAs}
use Rattle.solver_check.specs.declared.faults.RunFault.{RunFault}
use Rattle.solver_check.specs.declared.faults.RunFault.TheVariants.{OutOfMemory}

-- the journal of a desk, with the mode of its scene
abbrev pub log_of : DeskState → Log
log_of desk = record { mode = desk.scene.mode; entries = desk.journal }

-- the text that is saved of a desk
abbrev pub saved_text : DeskState → List ℕ
saved_text desk = journal_text desk.scene.mode desk.journal

-- the desk with that limit
abbrev pub under : ℕ → DeskState → DeskState
under limit desk = record { start = desk.start; scene = desk.scene; journal = desk.journal; limit = limit }

-- whatever journal was committed at the opening of a scene, and whatever session the desk was then served, in whichever version of lines: what is saved of
-- it, committed at the opening of the same scene under the same limit or a greater one, gives a desk of the same scene and
-- journal, which shows the same report at the same version; it is refused for no other cause than memory
abbrev pub SavedDesksComeBack : Type 0
SavedDesksComeBack = (version : LinesVersion) (journal : Option (List ℕ)) (scene : SceneState) (limit larger : ℕ) (start desk : DeskState) (bounds : Bounds) (left0 left1 held0 held1 : Option (List ℕ)) (first last : Session) (ended : Result ℕ ServeFault) (result : Result DeskState RunFault)
    → Replays journal scene limit start → Serves (answering_in version desk_counting) bounds left0 left1 held0 held1 (first, start) (last, desk) ended
    → IsJournal (log_of desk) → limit ≤ larger → ReplaysAs (Some (saved_text desk)) scene larger result
    → ((result ≡ Ok (under larger desk)) × ((reading : Reading) → ShowsReport desk reading → ShowsReport (under larger desk) reading)) ⊎ (result ≡ Err OutOfMemory)
