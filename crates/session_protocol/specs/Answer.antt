-- What a line is answered: by its request, or as a bad line, or it finds no memory (this project's choice).
use Rattle.std.specs.Prelude.{◌≡◌, ◌⊎◌, ℕ, List, Result, Ok, Err}
use Rattle.std.specs.Result.{IsOkAnd}
use Rattle.desk_commits.specs.Counting.{Counting}
use Rattle.bench_reader.specs.Words.{words_of}
use Rattle.session_lines.specs.Requests.{HasCells, request_of}
use Rattle.session_lines.specs.Questions.{HasList, request_in}
use Rattle.session_protocol.specs.Session.{Answering}
use Rattle.session_protocol.specs.Table.{Obeys, AddsToList, FindsNoMemory}
use Rattle.session_protocol.specs.declared.drafts.Session.{Session}
use Rattle.session_protocol.specs.declared.replies.BadLine.TheVariants as bad
use Rattle.session_protocol.specs.declared.replies.Reply.{Reply}
use Rattle.session_protocol.specs.declared.replies.Reply.TheVariants.{Bad}
use Rattle.session_lines.specs.declared.requests.Request.{Request}
use Rattle.session_lines.specs.declared.versions.LinesVersion.{LinesVersion}
use Rattle.session_lines.specs.declared.requests.LineFault.{LineFault}
use Rattle.session_lines.specs.declared.requests.LineFault.TheVariants.{Word, Shape, OutOfMemory}

-- a request is obeyed, and a bad line is told and changes nothing
abbrev pub IsReplyTo : {S : Type 0} → Counting S → ℕ → Session → S → Result Request LineFault → Reply → Session → S → Type 0
IsReplyTo c number old at (Ok request) reply new then = Obeys c number old at request reply new then
IsReplyTo c number old at (Err Word) reply new then = (reply ≡ Bad number bad.Word) × (new ≡ old) × (then ≡ at)
IsReplyTo c number old at (Err Shape) reply new then = (reply ≡ Bad number bad.Shape) × (new ≡ old) × (then ≡ at)
IsReplyTo c number old at (Err OutOfMemory) reply new then = FindsNoMemory old at reply new then

-- the line may grow something of the session's: the list of its cells, or what its request adds to
abbrev pub MayGrow : Session → List ℕ → Type 0
MayGrow session line = HasCells (words_of line) ⊎ IsOkAnd (request_of line) (AddsToList session)

-- a session beside a counter answers a line by its request; one that may grow something may find no memory, and then changes nothing
abbrev pub answering : {S : Type 0} → Counting S → Answering (Session × S)
answering c old number line reply new =
    IsReplyTo c number old.0 old.1 (request_of line) reply new.0 new.1 ⊎ (MayGrow old.0 line × FindsNoMemory old.0 old.1 reply new.0 new.1)

-- the same in a version of lines: in version 2 a line may also have a list of agents
abbrev pub MayGrowIn : LinesVersion → Session → List ℕ → Type 0
MayGrowIn version session line = HasList version (words_of line) ⊎ IsOkAnd (request_in version line) (AddsToList session)

-- a session in a version of lines answers as above, by that version's requests; in version 1 it is `answering`
abbrev pub answering_in : LinesVersion → {S : Type 0} → Counting S → Answering (Session × S)
answering_in version c old number line reply new =
    IsReplyTo c number old.0 old.1 (request_in version line) reply new.0 new.1 ⊎ (MayGrowIn version old.0 line × FindsNoMemory old.0 old.1 reply new.0 new.1)
