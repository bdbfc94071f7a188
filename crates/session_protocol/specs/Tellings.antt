-- How the answers of a counter are told (this project's choice).
use Rattle.std.specs.Prelude.{◌≡◌, ◌↔◌, ℕ, Bool, IsTrue, Option, Result, Ok, Err}
use Rattle.grid_cells.specs.declared.memory.OutOfMemory.{OutOfMemory}
use Rattle.desk_report.specs.Solves.{Solves}
use Rattle.mapf_rules.specs.declared.kinds.Kinds.{Kinds}
use Rattle.desk_commits.specs.Entries.{Entry}
use Rattle.desk_commits.specs.declared.answers.Refusal.{Refusal}
use Rattle.desk_commits.specs.declared.answers.Reading.{Reading}
use Rattle.desk_commits.specs.declared.answers.AskFault.{AskFault}
use Rattle.desk_commits.specs.declared.changed.SinceFault.{SinceFault}
use Rattle.desk_report.specs.declared.changed.Changes.{Changes}
use Rattle.session_protocol.specs.Drafts.{Draft}
use Rattle.session_protocol.specs.declared.drafts.Session.{Session}
use Rattle.session_protocol.specs.declared.drafts.Session.TheVariants.{Idle, Gathering}
use Rattle.session_protocol.specs.declared.replies.Reply.{Reply}
use Rattle.session_protocol.specs.declared.replies.Reply.TheVariants as reply

-- a commit's answer: the new version, or the refusal
abbrev pub commit_reply : Result ℕ (Refusal × Entry) → Reply
commit_reply (Ok version) = reply.Version version
commit_reply (Err (refusal, back)) = reply.Refused refusal

-- where a session is after its commit: idle if it was accepted, and else as before
abbrev pub after_commit : Draft → Result ℕ (Refusal × Entry) → Session
after_commit draft (Ok version) = Idle
after_commit draft (Err refused) = Gathering draft

-- a trial's answer: the version that the commit would make and what it would change, or the refusal
abbrev pub trial_reply : Result (ℕ × Changes) Refusal → Reply
trial_reply (Ok (version, changes)) = reply.Would version changes
trial_reply (Err refusal) = reply.Refused refusal

-- the answer to what changed since that version
abbrev pub changes_reply : ℕ → Result (ℕ × Changes) SinceFault → Reply
changes_reply since (Ok (now, changes)) = reply.Changed now since changes
changes_reply since (Err fault) = reply.NotTold fault

-- a reading's answer
abbrev pub reading_reply : Result Reading OutOfMemory → Reply
reading_reply (Ok reading) = reply.Shown reading
reading_reply (Err refused) = reply.NoMemory

-- whether a reading solves by those kinds
abbrev pub SolvesReply : Kinds → Result Reading OutOfMemory → Reply → Type 0
SolvesReply kinds (Ok reading) given = (is_so : Bool) × (IsTrue is_so ↔ Solves reading.report kinds) × (given ≡ reply.Solves is_so)
SolvesReply kinds (Err refused) given = given ≡ reply.NoMemory

-- a distance's answer
abbrev pub distance_reply : Result (Option ℕ) AskFault → Reply
distance_reply (Ok distance) = reply.Far distance
distance_reply (Err fault) = reply.NotAsked fault

-- the answer to a question of version 2 of lines
abbrev pub asked_reply : {X : Type 0} → (X → Reply) → Result X AskFault → Reply
asked_reply tell (Ok answer) = tell answer
asked_reply tell (Err fault) = reply.NotAsked fault
