-- Whole sessions: what their lines are answered, and what they leave behind.
use Rattle.std.specs.Prelude.{◌≡◌, ℕ, ◌+◌, ◌<◌, ◌≤◌, ◌⊎◌, List, [], ◌∷◌, ◌++◌, length, Option, Some, None, Result, Ok, Err, Bool, true, false, nat_eq, OnOk, OnErr}
use Rattle.std.specs.Io.KnownBytes.{Consumes, IsAtEnd, Appends}
use Rattle.bench_reader.specs.Lines.{lines_of}
use Rattle.desk_report.specs.Bytes.{AppendsFront}
use Rattle.session_protocol.specs.LinesOf.{complete_lines, last_piece}
use Rattle.session_protocol.specs.Replies.{reply_text, session_text}
use Rattle.session_protocol.specs.declared.bounds.Bounds.{Bounds}
use Rattle.session_protocol.specs.declared.bounds.ServeFault.{ServeFault}
use Rattle.session_protocol.specs.declared.bounds.ServeFault.TheVariants.{ReadFailed, WriteFailed, TooManyLines, TooManyBytes, OutOfMemory}
use Rattle.session_protocol.specs.declared.replies.Reply.{Reply}

-- from a state, a line of that number may be given that reply, and leaves that state
abbrev pub Answering : Type 0 → Type 1
Answering S = S → ℕ → List ℕ → Reply → S → Type 0

-- the lines, numbered from n, may be given those replies, one after the other
abbrev pub Run : {S : Type 0} → Answering S → S → ℕ → List (List ℕ) → List Reply → S → Type 0
Run {S} answers old n [] [] new = new ≡ old
Run {S} answers old n (line ∷ lines) (reply ∷ replies) new = (mid : S) × answers old n line reply mid × Run answers mid (n + 1) lines replies new
Run {S} answers old n [] (reply ∷ replies) new = ⊥
Run {S} answers old n (line ∷ lines) [] new = ⊥

-- the line was answered, and the text of its reply went out, or a front of it where that failed
pub record IsAnswered {S T E : Type 0} (answers : Answering S) (old : S) (number : ℕ) (line : List ℕ) (held0 held1 : Option (List ℕ)) (result : Result T E) (new : S) : Type 0 where
  pub reply : Reply
  pub answered : answers old number line reply new
  pub sent : OnOk result (Appends held0 held1 (reply_text reply))
  pub cut : OnErr result (AppendsFront held0 held1 (reply_text reply))

-- what was heard has no more lines and bytes than the bounds allow; a line not yet complete counts
abbrev pub IsWithin : Bounds → List ℕ → Type 0
IsWithin bounds heard = (length (lines_of heard) ≤ bounds.lines) × (length heard ≤ bounds.bytes)

-- the next byte after so many whole lines and bytes: one that the bounds allow, none at the end, or a fault
abbrev pub IsNextByte : (left0 left1 : Option (List ℕ)) → Bounds → ℕ → ℕ → Result (Option ℕ) ServeFault → Type 0
IsNextByte left0 left1 bounds lines bytes (Ok (Some byte)) = Consumes left0 left1 (byte ∷ []) × (lines < bounds.lines) × (bytes < bounds.bytes)
IsNextByte left0 left1 bounds lines bytes (Ok None) = Consumes left0 left1 [] × IsAtEnd left1
IsNextByte left0 left1 bounds lines bytes (Err ReadFailed) = Consumes left0 left1 []
IsNextByte left0 left1 bounds lines bytes (Err WriteFailed) = ⊥
IsNextByte left0 left1 bounds lines bytes (Err TooManyLines) = (byte : ℕ) × Consumes left0 left1 (byte ∷ []) × (bounds.lines ≤ lines)
IsNextByte left0 left1 bounds lines bytes (Err TooManyBytes) = (byte : ℕ) × Consumes left0 left1 (byte ∷ []) × (lines < bounds.lines) × (bounds.bytes ≤ bytes)
IsNextByte left0 left1 bounds lines bytes (Err OutOfMemory) = ⊥

-- the text of all replies went out
abbrev pub SendsAll : (held0 held1 : Option (List ℕ)) → List Reply → Type 0
SendsAll held0 held1 replies = Appends held0 held1 (session_text replies)

-- the text of all replies but the last went out, and a front of the last one's
pub record SendsUpToLast (held0 held1 : Option (List ℕ)) (replies : List Reply) : Type 0 where
  pub earlier : List Reply
  pub last : Reply
  pub split : replies ≡ earlier ++ last ∷ []
  pub front : List ℕ
  pub unsent : List ℕ
  pub cut : reply_text last ≡ front ++ unsent
  pub sent : Appends held0 held1 (session_text earlier ++ front)

-- a session that took the bytes `heard`, and `over` beyond them, and answered those of its lines
pub record Served {S : Type 0} (answers : Answering S) (left0 left1 held0 held1 : Option (List ℕ)) (old new : S) (lines : List ℕ → List (List ℕ)) (over : List ℕ) (IsEnd : List ℕ → Type 0) (Sends : (held0 held1 : Option (List ℕ)) → List Reply → Type 0) : Type 0 where
  pub heard : List ℕ
  pub replies : List Reply
  pub taken : Consumes left0 left1 (heard ++ over)
  pub run : Run answers old 1 (lines heard) replies new
  pub written : Sends held0 held1 replies
  pub ends : IsEnd heard

-- what a session leaves: at the end of the input, or at the first fault
abbrev pub Serves : {S : Type 0} → Answering S → Bounds → (left0 left1 held0 held1 : Option (List ℕ)) → S → S → Result ℕ ServeFault → Type 0
Serves answers bounds left0 left1 held0 held1 old new (Ok n) =
    Served answers left0 left1 held0 held1 old new lines_of [] (λ heard. IsAtEnd left1 × IsWithin bounds heard × (n ≡ length (lines_of heard))) SendsAll
Serves answers bounds left0 left1 held0 held1 old new (Err ReadFailed) =
    Served answers left0 left1 held0 held1 old new complete_lines [] (λ heard. IsWithin bounds heard) SendsAll
Serves answers bounds left0 left1 held0 held1 old new (Err WriteFailed) =
    Served answers left0 left1 held0 held1 old new lines_of [] (λ heard. IsWithin bounds heard × ((last_piece heard ≡ []) ⊎ IsAtEnd left1)) SendsUpToLast
Serves answers bounds left0 left1 held0 held1 old new (Err TooManyLines) =
    (byte : ℕ) × Served answers left0 left1 held0 held1 old new complete_lines (byte ∷ []) (λ heard. (last_piece heard ≡ []) × (length (complete_lines heard) ≡ bounds.lines) × (length heard ≤ bounds.bytes)) SendsAll
Serves answers bounds left0 left1 held0 held1 old new (Err TooManyBytes) =
    (byte : ℕ) × Served answers left0 left1 held0 held1 old new complete_lines (byte ∷ []) (λ heard. (length (complete_lines heard) < bounds.lines) × (length heard ≡ bounds.bytes)) SendsAll
Serves answers bounds left0 left1 held0 held1 old new (Err OutOfMemory) =
    (byte : ℕ) × Served answers left0 left1 held0 held1 old new complete_lines (byte ∷ []) (λ heard. IsWithin bounds (heard ++ (byte ∷ [])) × (nat_eq byte 10 ≡ false)) SendsAll

-- the source failed, and the sink failed
abbrev pub is_read_failed : {T : Type 0} → Result T ServeFault → Bool
is_read_failed (Err ReadFailed) = true
is_read_failed other = false

abbrev pub is_write_failed : {T : Type 0} → Result T ServeFault → Bool
is_write_failed (Err WriteFailed) = true
is_write_failed other = false
