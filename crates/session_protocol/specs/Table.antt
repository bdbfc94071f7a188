-- The table of a session: what each request is answered where the session is idle or gathers, and where it then is (this project's choice).
use Rattle.std.specs.Prelude.{◌≡◌, ◌<◌, ◌⊎◌, ℕ, [], ◌∷◌, ◌++◌, length, Option, Result}
use Rattle.grid_cells.specs.Cell.{Point}
use Rattle.grid_cells.specs.declared.memory.OutOfMemory.{OutOfMemory}
use Rattle.mapf_rules.specs.declared.kinds.Kinds.{Kinds}
use Rattle.scene_edits.specs.declared.changes.Thing.{Thing}
use Rattle.scene_edits.specs.declared.edits.Edit.{Edit}
use Rattle.desk_commits.specs.Entries.{Entry}
use Rattle.desk_commits.specs.declared.commits.TheConstants.{MOST_EDITS, MOST_WATCHES}
use Rattle.desk_commits.specs.declared.answers.Refusal.{Refusal}
use Rattle.desk_commits.specs.declared.answers.Reading.{Reading}
use Rattle.desk_commits.specs.declared.answers.AskFault.{AskFault}
use Rattle.desk_commits.specs.Counting.{Counting}
use Rattle.session_protocol.specs.Drafts.{Draft, nothing_gathered, entry_gathered}
use Rattle.desk_commits.specs.Questions.{TellsCut, TellsPlan, TellsOpen, TellsStanding}
use Rattle.desk_commits.specs.State.{DeskState}
use Rattle.desk_report.specs.declared.changed.Changes.{Changes}
use Rattle.desk_commits.specs.Changed.{TellsChanges, TellsTrial}
use Rattle.desk_commits.specs.declared.changed.SinceFault.{SinceFault}
use Rattle.session_protocol.specs.Tellings.{commit_reply, trial_reply, changes_reply, after_commit, reading_reply, SolvesReply, distance_reply, asked_reply}
use Rattle.session_protocol.specs.declared.drafts.Session.{Session}
use Rattle.session_protocol.specs.declared.drafts.Session.TheVariants.{Idle, Gathering}
use Rattle.session_protocol.specs.declared.replies.BadLine.TheVariants.{NotBegun, Full}
use Rattle.session_protocol.specs.declared.replies.Reply.{Reply}
use Rattle.session_protocol.specs.declared.replies.Reply.TheVariants as reply
use Rattle.session_lines.specs.declared.inquiries.Inquiry.{Inquiry}
use Rattle.session_lines.specs.declared.inquiries.Inquiry.TheVariants as inquiry
use Rattle.session_lines.specs.declared.requests.Request.{Request}
use Rattle.session_lines.specs.declared.requests.Request.TheVariants as ask

-- one more watch is kept, where there are fewer than a commit may have
abbrev pub KeepsWatch : ℕ → Draft → Thing → Reply → Session → Type 0
KeepsWatch number draft thing given new =
    ((length draft.watch < MOST_WATCHES) × (given ≡ reply.Kept) × (new ≡ Gathering (record draft { watch = draft.watch ++ thing ∷ [] })))
    ⊎ ((length draft.watch ≡ MOST_WATCHES) × (given ≡ reply.Bad number Full) × (new ≡ Gathering draft))

-- one more edit is kept, where there are fewer than a commit may have
abbrev pub KeepsEdit : ℕ → Draft → Edit → Reply → Session → Type 0
KeepsEdit number draft edit given new =
    ((length draft.edits < MOST_EDITS) × (given ≡ reply.Kept) × (new ≡ Gathering (record draft { edits = draft.edits ++ edit ∷ [] })))
    ⊎ ((length draft.edits ≡ MOST_EDITS) × (given ≡ reply.Bad number Full) × (new ≡ Gathering draft))

-- the commit is made, and its answer is told
abbrev pub Commits : {S : Type 0} → Counting S → S → Draft → (Result ℕ (Refusal × Entry) → Session) → Reply → Session → S → Type 0
Commits {S} c at draft where_then given new then =
    (result : Result ℕ (Refusal × Entry)) × c.commits at (entry_gathered (c.planner at) draft) result then × (given ≡ commit_reply result) × (new ≡ where_then result)

-- the trial of the commit of a draft, and what it tells
abbrev pub TriesOut : {S : Type 0} → Counting S → S → Draft → Reply → S → Type 0
TriesOut {S} c at draft given then =
    (result : Result (ℕ × Changes) Refusal) × c.asks (Result (ℕ × Changes) Refusal) at (λ desk. TellsTrial desk (entry_gathered (c.planner at) draft)) result then
    × (given ≡ trial_reply result)

-- an edit line outside a gathering: a commit of this edit, with no watch, on the counter's version
abbrev pub CommitsAlone : {S : Type 0} → Counting S → S → Edit → Reply → Session → S → Type 0
CommitsAlone {S} c at edit given new then =
    (base : ℕ) × (seen : S) × c.versions at base seen × Commits c seen (record { base = base; watch = []; edits = edit ∷ [] }) (λ result. Idle) given new then

-- a new gathering, on the counter's version
abbrev pub BeginsGathering : {S : Type 0} → Counting S → S → Reply → Session → S → Type 0
BeginsGathering c at given new then = (base : ℕ) × c.versions at base then × (given ≡ reply.Base base) × (new ≡ Gathering (nothing_gathered base))

-- what was asked without a gathering
abbrev pub IsNotBegun : {S : Type 0} → ℕ → S → Reply → Session → S → Type 0
IsNotBegun number at given new then = (given ≡ reply.Bad number NotBegun) × (new ≡ Idle) × (then ≡ at)

-- the counter's version is told
abbrev pub TellsVersion : {S : Type 0} → Counting S → S → Reply → S → Type 0
TellsVersion c at given then = (version : ℕ) × c.versions at version then × (given ≡ reply.Version version)

-- a fresh reading is told, or whether it solves
abbrev pub TellsReport : {S : Type 0} → Counting S → S → Reply → S → Type 0
TellsReport c at given then = (result : Result Reading OutOfMemory) × c.reads at result then × (given ≡ reading_reply result)

abbrev pub TellsSolves : {S : Type 0} → Counting S → S → Kinds → Reply → S → Type 0
TellsSolves c at kinds given then = (result : Result Reading OutOfMemory) × c.reads at result then × SolvesReply kinds result given

-- a distance is told
abbrev pub TellsDistance : {S : Type 0} → Counting S → S → ℕ → Point → Reply → S → Type 0
TellsDistance c at agent cell given then = (result : Result (Option ℕ) AskFault) × c.tells at agent cell result then × (given ≡ distance_reply result)

-- a question is put to the counter, and what it answers is told, or the first fault of the question
abbrev pub AsksCounter : {S X : Type 0} → Counting S → S → (DeskState → Result X AskFault → Type 0) → (X → Reply) → Reply → S → Type 0
AsksCounter {S} {X} c at IsAnswer tell given then = (result : Result X AskFault) × c.asks (Result X AskFault) at IsAnswer result then × (given ≡ asked_reply tell result)

-- what changed since that version is told, or why it isn't
abbrev pub TellsSince : {S : Type 0} → Counting S → S → ℕ → Reply → S → Type 0
TellsSince c at since given then =
    (result : Result (ℕ × Changes) SinceFault) × c.asks (Result (ℕ × Changes) SinceFault) at (λ desk. TellsChanges desk since) result then × (given ≡ changes_reply since result)

-- a question of version 2 of lines: the report cut to some agents, what changed in it, a plan, whether a cell is open, who is where at a time; a wait ends
-- with the counter's version
abbrev pub Inquires : {S : Type 0} → Counting S → S → Inquiry → Reply → S → Type 0
Inquires c at (inquiry.Report agents) given then = AsksCounter c at (λ desk. TellsCut desk agents) reply.Shown given then
Inquires c at (inquiry.Changes version) given then = TellsSince c at version given then
Inquires c at (inquiry.Plan agent) given then = AsksCounter c at (λ desk. TellsPlan desk.scene agent) (reply.Planned agent) given then
Inquires c at (inquiry.Cell cell) given then = AsksCounter c at (λ desk. TellsOpen desk.scene cell) reply.Open given then
Inquires c at (inquiry.At time cell) given then = AsksCounter c at (λ desk. TellsStanding desk.scene time cell) reply.Standing given then
Inquires c at (inquiry.Wait seen seconds) given then = TellsVersion c at given then

-- from a session and a counter, a request in the line of that number is given that reply, and leaves that session and that counter
abbrev pub Obeys : {S : Type 0} → Counting S → ℕ → Session → S → Request → Reply → Session → S → Type 0
Obeys c number old at ask.Silent given new then = (given ≡ reply.Silent) × (new ≡ old) × (then ≡ at)
Obeys c number old at ask.Begin given new then = BeginsGathering c at given new then
Obeys c number Idle at (ask.Watch thing) given new then = IsNotBegun number at given new then
Obeys c number (Gathering draft) at (ask.Watch thing) given new then = KeepsWatch number draft thing given new × (then ≡ at)
Obeys c number Idle at (ask.Edit edit) given new then = CommitsAlone c at edit given new then
Obeys c number (Gathering draft) at (ask.Edit edit) given new then = KeepsEdit number draft edit given new × (then ≡ at)
Obeys c number Idle at ask.Commit given new then = IsNotBegun number at given new then
Obeys c number (Gathering draft) at ask.Commit given new then = Commits c at draft (after_commit draft) given new then
Obeys c number Idle at ask.Cancel given new then = IsNotBegun number at given new then
Obeys c number (Gathering draft) at ask.Cancel given new then = (given ≡ reply.Cancelled) × (new ≡ Idle) × (then ≡ at)
Obeys c number Idle at ask.Try given new then = IsNotBegun number at given new then
Obeys c number (Gathering draft) at ask.Try given new then = TriesOut c at draft given then × (new ≡ Gathering draft)
Obeys c number old at ask.Version given new then = TellsVersion c at given then × (new ≡ old)
Obeys c number old at ask.Report given new then = TellsReport c at given then × (new ≡ old)
Obeys c number old at (ask.Distance agent cell) given new then = TellsDistance c at agent cell given then × (new ≡ old)
Obeys c number old at (ask.Solves kinds) given new then = TellsSolves c at kinds given then × (new ≡ old)
Obeys c number old at (ask.Ask question) given new then = Inquires c at question given then × (new ≡ old)

-- no memory was found, and nothing changed
abbrev pub FindsNoMemory : {S : Type 0} → Session → S → Reply → Session → S → Type 0
FindsNoMemory old at given new then = (given ≡ reply.NoMemory) × (new ≡ old) × (then ≡ at)

-- the request adds to a list: to one that is gathered and isn't full, or an edit to that of a commit of its own
abbrev pub AddsToList : Session → Request → Type 0
AddsToList Idle (ask.Edit edit) = Unit {0}
AddsToList (Gathering draft) (ask.Edit edit) = length draft.edits < MOST_EDITS
AddsToList (Gathering draft) (ask.Watch thing) = length draft.watch < MOST_WATCHES
AddsToList session _ = ⊥

-- a request is obeyed; one that adds to a list may find no memory, and then changes nothing
abbrev pub MayObey : {S : Type 0} → Counting S → ℕ → Session → S → Request → Reply → Session → S → Type 0
MayObey c number old at request given new then =
    Obeys c number old at request given new then ⊎ (AddsToList old request × FindsNoMemory old at given new then)
