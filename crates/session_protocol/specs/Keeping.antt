-- What is kept of a counter between what a line did and its answer (this project's choice).
use Rattle.std.specs.Prelude.{ℕ, ◌+◌, List, length, Option}
use Rattle.desk_commits.specs.Counting.{Counting}
use Rattle.session_lines.specs.declared.versions.LinesVersion.{LinesVersion}
use Rattle.session_protocol.specs.Answer.{answering_in}
use Rattle.session_protocol.specs.Session.{Answering, Run, SendsAll}
use Rattle.session_protocol.specs.declared.drafts.Session.{Session}
use Rattle.session_protocol.specs.declared.replies.Reply.{Reply}

-- a line was answered between these counters
pub record HasAnswered {S : Type 0} (c : Counting S) (before now : S) : Type 0 where
  pub version : LinesVersion
  pub from : Session
  pub to : Session
  pub number : ℕ
  pub line : List ℕ
  pub reply : Reply
  pub answered : answering_in version c (from, before) number line reply (to, now)

-- what the last line did wasn't kept, and of its answer nothing went out; the answers of all lines before it did
pub record StopsUnkept {S : Type 0} (answers : Answering S) (held0 held1 : Option (List ℕ)) (old new : S) (IsKept : S → Type 0) : Type 0 where
  pub lines : List (List ℕ)
  pub replies : List Reply
  pub told : S
  pub run : Run answers old 1 lines replies told
  pub sent : SendsAll held0 held1 replies
  pub line : List ℕ
  pub reply : Reply
  pub answered : answers told (length lines + 1) line reply new
  pub kept : IsKept told
