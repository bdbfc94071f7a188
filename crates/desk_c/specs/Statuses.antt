-- What calls on numbers answer (this project's choice of the numbers).
use Rattle.std.specs.Prelude.{◌≡◌, ℕ, Option, Some, None, Result, Ok, Err}
use Rattle.scene_edits.specs.declared.edits.EditFault.{EditFault}
use Rattle.scene_edits.specs.declared.edits.EditFault.TheVariants as edit
use Rattle.desk_commits.specs.declared.answers.Refusal.{Refusal}
use Rattle.desk_commits.specs.declared.answers.Refusal.TheVariants as refusal
use Rattle.desk_commits.specs.declared.answers.AskFault.TheVariants as ask
use Rattle.desk_c.specs.declared.statuses.Stop.{Stop}
use Rattle.desk_c.specs.declared.statuses.Stop.TheVariants as stop
use Rattle.desk_c.specs.declared.statuses.TheConstants.{DONE, OUT_OF_MEMORY, NO_SUCH_NUMBER, UNKNOWN_AGENT, OUT_OF_MAP, EMPTY_PATH, NOT_FROM_START, NOT_A_STEP, TOO_LONG, JOURNAL_FULL, NO_WAY, REFUSED}

-- the status of an edit's fault
abbrev pub status_of_edit : EditFault → ℕ
status_of_edit edit.UnknownAgent = UNKNOWN_AGENT
status_of_edit edit.OutOfMap = OUT_OF_MAP
status_of_edit edit.EmptyPath = EMPTY_PATH
status_of_edit edit.NotFromStart = NOT_FROM_START
status_of_edit (edit.NotAStep at) = NOT_A_STEP
status_of_edit edit.TooLong = TOO_LONG
status_of_edit other = REFUSED

-- the status of a refusal
abbrev pub status_of_refusal : Refusal → ℕ
status_of_refusal (refusal.JournalFull limit) = JOURNAL_FULL
status_of_refusal refusal.OutOfMemory = OUT_OF_MEMORY
status_of_refusal (refusal.Faulty index why) = status_of_edit why
status_of_refusal other = REFUSED

-- the status of what stopped a call
abbrev pub status_of : Stop → ℕ
status_of stop.NoNumber = NO_SUCH_NUMBER
status_of stop.OutOfMemory = OUT_OF_MEMORY
status_of (stop.Refused refusal) = status_of_refusal refusal
status_of (stop.NotAsked ask.UnknownAgent) = UNKNOWN_AGENT
status_of (stop.NotAsked ask.OutOfMap) = OUT_OF_MAP
status_of (stop.NotAsked ask.OutOfMemory) = OUT_OF_MEMORY

-- a value is in its place where there is one, and else that is as it was
abbrev pub Gives : {X : Type 0} → Result X Stop → ℕ → (old new : X) → Type 0
Gives (Ok value) told old new = (told ≡ DONE) × (new ≡ value)
Gives (Err why) told old new = (told ≡ status_of why) × (new ≡ old)

-- the same of a distance; where no way leads there, that is the status
abbrev pub GivesDistance : Result (Option ℕ) Stop → ℕ → (old new : ℕ) → Type 0
GivesDistance (Ok (Some distance)) told old new = (told ≡ DONE) × (new ≡ distance)
GivesDistance (Ok None) told old new = (told ≡ NO_WAY) × (new ≡ old)
GivesDistance (Err why) told old new = (told ≡ status_of why) × (new ≡ old)
