-- A session over a map: the map's lines come first, and then the session's (this project's choice).
use Rattle.std.specs.Prelude.{◌≡◌, ℕ, ◌+◌, ◌-◌, ◌<◌, ◌≤◌, ◌⊎◌, List, [], ◌∷◌, ◌++◌, length, Option, Result, Ok, Err, Bool, false}
use Rattle.std.specs.Io.KnownBytes.{Consumes, IsAtEnd}
use Rattle.grid_cells.specs.Grid.{Chart}
use Rattle.plan_table.specs.declared.tracks.Mode.{Mode}
use Rattle.bench_reader.specs.Announced.{rows_announced}
use Rattle.bench_reader.specs.Lines as text_lines
use Rattle.bench_reader.specs.MapText.{IsMapText}
use Rattle.bench_reader.specs.MapFaults.{IsMapFault}
use Rattle.desk_commits.specs.State.{DeskState, opening}
use Rattle.session_protocol.specs.Answer.{answering}
use Rattle.desk_commits.specs.Counting.{desk_counting}
use Rattle.session_protocol.specs.LinesOf.{complete_lines, last_piece}
use Rattle.session_protocol.specs.Session.{Serves, is_read_failed, is_write_failed}
use Rattle.session_protocol.specs.declared.bounds.Bounds.{Bounds}
use Rattle.session_protocol.specs.declared.bounds.ServeFault.{ServeFault}
use Rattle.session_protocol.specs.declared.bounds.ServeFault.TheVariants as fault
use Rattle.session_protocol.specs.declared.bounds.StartFault.{StartFault}
use Rattle.session_protocol.specs.declared.bounds.StartFault.TheVariants.{Map, Serve}
use Rattle.session_protocol.specs.declared.drafts.Session.{Session}
use Rattle.session_protocol.specs.declared.drafts.Session.TheVariants.{Idle}

-- the text has fewer complete lines than the map takes: four, and the rows that these announce
abbrev pub IsUnfinished : List ℕ → Type 0
IsUnfinished text = length (complete_lines text) < 4 + rows_announced (complete_lines text)

-- the text has so many complete lines, and the map takes so many, as those lines tell
pub record Told (text : List ℕ) (lines wanted : ℕ) : Type 0 where
  pub counted : length (complete_lines text) ≡ lines
  pub is : 4 + rows_announced (complete_lines text) ≡ wanted
  pub few : wanted ≤ 2052

-- the text ends with the last line that the map takes
pub record EndsWithMap (text : List ℕ) : Type 0 where
  pub ended : last_piece text ≡ []
  pub lines : length (complete_lines text) ≡ 4 + rows_announced (complete_lines text)

-- the map's text was heard: the lines that the map takes, or those that there are
pub record HearsMap (left0 left1 : Option (List ℕ)) (most : ℕ) (text : List ℕ) : Type 0 where
  pub taken : Consumes left0 left1 text
  pub within : length text ≤ most
  pub whole : EndsWithMap text ⊎ (IsUnfinished text × IsAtEnd left1)

-- the input stopped in the map, after the text and the bytes beyond it
pub record Stops (left0 left1 : Option (List ℕ)) (text over : List ℕ) : Type 0 where
  pub taken : Consumes left0 left1 (text ++ over)
  pub unfinished : IsUnfinished text

-- the fault that came before the map's text was heard
abbrev pub StopsInMap : (left0 left1 : Option (List ℕ)) → ℕ → ServeFault → Type 0
StopsInMap left0 left1 most fault.ReadFailed = (text : List ℕ) × Stops left0 left1 text [] × (length text ≤ most)
StopsInMap left0 left1 most fault.TooManyBytes = (text : List ℕ) × (byte : ℕ) × Stops left0 left1 text (byte ∷ []) × (length text ≡ most)
StopsInMap left0 left1 most fault.OutOfMemory = (text : List ℕ) × (byte : ℕ) × Stops left0 left1 text (byte ∷ []) × (length text < most)
StopsInMap left0 left1 most fault.WriteFailed = ⊥
StopsInMap left0 left1 most fault.TooManyLines = ⊥

-- what is left of the bounds after the map's text: its bytes count, its lines don't
abbrev pub bounds_after : List ℕ → Bounds → Bounds
bounds_after text bounds = record { lines = bounds.lines; bytes = bounds.bytes - length text }

-- the desk of a map, on which no agent is
abbrev pub desk_of : Chart → Mode → ℕ → DeskState
desk_of grid mode limit = opening (record { grid = grid; rows = []; mode = mode }) limit

-- the map was heard and read, and the rest of the input was a session over its desk
pub record Started (left0 left1 held0 held1 : Option (List ℕ)) (bounds : Bounds) (mode : Mode) (limit : ℕ) (result : Result ℕ ServeFault) : Type 0 where
  pub text : List ℕ
  pub between : Option (List ℕ)
  pub grid : Chart
  pub last : Session
  pub desk : DeskState
  pub heard : HearsMap left0 between bounds.bytes text
  pub map : IsMapText text grid
  pub session : Serves (answering desk_counting) (bounds_after text bounds) between left1 held0 held1 (Idle, desk_of grid mode limit) (last, desk) result

-- what a session over a map leaves; where it does not begin, nothing is written
abbrev pub Starts : (left0 left1 held0 held1 : Option (List ℕ)) → Bounds → Mode → ℕ → Result ℕ StartFault → Type 0
Starts left0 left1 held0 held1 bounds mode limit (Ok n) = Started left0 left1 held0 held1 bounds mode limit (Ok n)
Starts left0 left1 held0 held1 bounds mode limit (Err (Map why)) =
    (text : List ℕ) × HearsMap left0 left1 bounds.bytes text × IsMapFault (text_lines.lines_of text) why × (held1 ≡ held0)
Starts left0 left1 held0 held1 bounds mode limit (Err (Serve why)) =
    Started left0 left1 held0 held1 bounds mode limit (Err why) ⊎ (StopsInMap left0 left1 bounds.bytes why × (held1 ≡ held0))

-- the source failed, and the sink failed
abbrev pub is_read_fault : Result ℕ StartFault → Bool
is_read_fault (Ok n) = false
is_read_fault (Err (Map why)) = false
is_read_fault (Err (Serve why)) = is_read_failed {T = ℕ} (Err why)

abbrev pub is_write_fault : Result ℕ StartFault → Bool
is_write_fault (Ok n) = false
is_write_fault (Err (Map why)) = false
is_write_fault (Err (Serve why)) = is_write_failed {T = ℕ} (Err why)
