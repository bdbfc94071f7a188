-- What every call of a counter keeps is kept by a whole session.
use Rattle.std.proofs.Common.{◌≡◌, ℕ, ◌+◌, List, [], ◌∷◌, Option, Result, Ok, Err, inl, inr, sym, subst}
use Rattle.grid_cells.specs.Cell.{Point}
use Rattle.grid_cells.specs.declared.memory.OutOfMemory.{OutOfMemory}
use Rattle.desk_commits.specs.Entries.{Entry}
use Rattle.desk_commits.specs.declared.answers.Refusal.{Refusal}
use Rattle.desk_commits.specs.declared.answers.Reading.{Reading}
use Rattle.desk_commits.specs.State.{DeskState}
use Rattle.desk_commits.specs.declared.answers.AskFault.{AskFault}
use Rattle.session_lines.specs.declared.inquiries.Inquiry.{Inquiry}
use Rattle.session_lines.specs.declared.inquiries.Inquiry.TheVariants as inquiry
use Rattle.session_lines.specs.declared.versions.LinesVersion.{LinesVersion}
use Rattle.session_lines.specs.declared.requests.Request.{Request}
use Rattle.session_lines.specs.declared.requests.Request.TheVariants as ask
use Rattle.session_lines.specs.declared.requests.LineFault.{LineFault}
use Rattle.session_lines.specs.declared.requests.LineFault.TheVariants as fault
use Rattle.session_lines.specs.Questions.{request_in}
use Rattle.session_protocol.specs.Answer.{IsReplyTo, answering_in}
use Rattle.desk_commits.specs.Counting.{Counting}
use Rattle.session_protocol.specs.Session.{Run, Serves}
use Rattle.session_protocol.specs.Table.{Obeys, Inquires}
use Rattle.session_protocol.specs.declared.bounds.Bounds.{Bounds}
use Rattle.session_protocol.specs.declared.bounds.ServeFault.{ServeFault}
use Rattle.session_protocol.specs.declared.bounds.ServeFault.TheVariants as ended
use Rattle.session_protocol.specs.declared.drafts.Session.{Session}
use Rattle.session_protocol.specs.declared.drafts.Session.TheVariants.{Idle, Gathering}
use Rattle.session_protocol.specs.declared.replies.Reply.{Reply}

-- what holds between a counter before and after some calls
pub record IsKept {S : Type 0} (c : Counting S) (Keeps : S → S → Type 0) : Type 1 where
  pub same : (s : S) → Keeps s s
  pub joined : (r s t : S) → Keeps r s → Keeps s t → Keeps r t
  pub versions : (old new : S) (version : ℕ) → c.versions old version new → Keeps old new
  pub commits : (old new : S) (commit : Entry) (result : Result ℕ (Refusal × Entry)) → c.commits old commit result new → Keeps old new
  pub reads : (old new : S) (result : Result Reading OutOfMemory) → c.reads old result new → Keeps old new
  pub tells : (old new : S) (agent : ℕ) (cell : Point) (result : Result (Option ℕ) AskFault) → c.tells old agent cell result new → Keeps old new
  pub asks : (X : Type 0) (old new : S) (IsAnswer : DeskState → X → Type 0) (answer : X) → c.asks X old IsAnswer answer new → Keeps old new

module _ {S : Type 0} (version : LinesVersion) (c : Counting S) (Keeps : S → S → Type 0) (kept : IsKept c Keeps) where
  stays : (at then : S) → then ≡ at → Keeps at then
  stays at then same = subst (Keeps at) (sym same) (kept.same at)

  inquires : (question : Inquiry) (at then : S) (reply : Reply) → Inquires c at question reply then → Keeps at then
  inquires (inquiry.Report agents) at then reply done = kept.asks _ _ _ _ _ done.1
  inquires (inquiry.Changes version) at then reply done = kept.asks _ _ _ _ _ done.1
  inquires (inquiry.Plan agent) at then reply done = kept.asks _ _ _ _ _ done.1
  inquires (inquiry.Cell cell) at then reply done = kept.asks _ _ _ _ _ done.1
  inquires (inquiry.At time cell) at then reply done = kept.asks _ _ _ _ _ done.1
  inquires (inquiry.Wait seen seconds) at then reply done = kept.versions _ _ _ done.1

  obeys : (number : ℕ) (session : Session) (request : Request) (at then : S) (reply : Reply) (next : Session) → Obeys c number session at request reply next then → Keeps at then
  obeys number session ask.Silent at then reply next done = stays at then done.2
  obeys number session ask.Begin at then reply next done = kept.versions _ _ _ done.1
  obeys number Idle (ask.Watch thing) at then reply next done = stays at then done.2
  obeys number (Gathering draft) (ask.Watch thing) at then reply next done = stays at then done.1
  obeys number Idle (ask.Edit edit) at then reply next done = kept.joined _ _ _ (kept.versions _ _ _ done.2) (kept.commits _ _ _ _ done.3.1)
  obeys number (Gathering draft) (ask.Edit edit) at then reply next done = stays at then done.1
  obeys number Idle ask.Commit at then reply next done = stays at then done.2
  obeys number (Gathering draft) ask.Commit at then reply next done = kept.commits _ _ _ _ done.1
  obeys number Idle ask.Cancel at then reply next done = stays at then done.2
  obeys number (Gathering draft) ask.Cancel at then reply next done = stays at then done.2
  obeys number Idle ask.Try at then reply next done = stays at then done.2
  obeys number (Gathering draft) ask.Try at then reply next done = kept.asks _ _ _ _ _ done.0.1
  obeys number session ask.Version at then reply next done = kept.versions _ _ _ done.0.1
  obeys number session ask.Report at then reply next done = kept.reads _ _ _ done.0.1
  obeys number session (ask.Distance agent cell) at then reply next done = kept.tells _ _ _ _ _ done.0.1
  obeys number session (ask.Solves kinds) at then reply next done = kept.reads _ _ _ done.0.1
  obeys number session (ask.Ask question) at then reply next done = inquires question at then reply done.0

  replies : (number : ℕ) (session : Session) (asked : Result Request LineFault) (at then : S) (reply : Reply) (next : Session) → IsReplyTo c number session at asked reply next then → Keeps at then
  replies number session (Ok request) at then reply next done = obeys number session request at then reply next done
  replies number session (Err fault.Word) at then reply next done = stays at then done.2
  replies number session (Err fault.Shape) at then reply next done = stays at then done.2
  replies number session (Err fault.OutOfMemory) at then reply next done = stays at then done.2

  pub answers : (old : Session × S) (number : ℕ) (line : List ℕ) (reply : Reply) (new : Session × S) → answering_in version c old number line reply new → Keeps old.1 new.1
  answers old number line reply new (inl done) = replies number old.0 (request_in version line) old.1 new.1 reply new.0 done
  answers old number line reply new (inr (grows, done)) = stays old.1 new.1 done.2

  runs : (old : Session × S) (number : ℕ) (lines : List (List ℕ)) (replies : List Reply) (new : Session × S) → Run (answering_in version c) old number lines replies new → Keeps old.1 new.1
  runs old number [] [] new same = stays old.1 new.1 (λ i. (same i).1)
  runs old number (line ∷ lines) (reply ∷ replies) new (mid, answered, later) = kept.joined _ _ _ (answers old number line reply mid answered) (runs mid (number + 1) lines replies new later)
  runs old number [] (reply ∷ replies) new none = absurd none
  runs old number (line ∷ lines) [] new none = absurd none

  -- a session keeps it too
  pub serves : (bounds : Bounds) (left0 left1 held0 held1 : Option (List ℕ)) (old new : Session × S) (result : Result ℕ ServeFault) → Serves (answering_in version c) bounds left0 left1 held0 held1 old new result → Keeps old.1 new.1
  serves bounds left0 left1 held0 held1 old new (Ok n) served = runs old 1 _ served.replies new served.run
  serves bounds left0 left1 held0 held1 old new (Err ended.ReadFailed) served = runs old 1 _ served.replies new served.run
  serves bounds left0 left1 held0 held1 old new (Err ended.WriteFailed) served = runs old 1 _ served.replies new served.run
  serves bounds left0 left1 held0 held1 old new (Err ended.TooManyLines) served = runs old 1 _ served.1.replies new served.1.run
  serves bounds left0 left1 held0 held1 old new (Err ended.TooManyBytes) served = runs old 1 _ served.1.replies new served.1.run
  serves bounds left0 left1 held0 held1 old new (Err ended.OutOfMemory) served = runs old 1 _ served.1.replies new served.1.run
