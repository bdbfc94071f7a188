-- How refusals are written (this project's choice).
use Rattle.std.specs.Prelude.{ℕ, List, [], ◌∷◌, ◌++◌, codes, decimal}
use Rattle.std.specs.List.{join_with_byte}
use Rattle.desk_report.specs.LineText.{line_text, cell_text}
use Rattle.scene_edits.specs.declared.changes.Thing.{Thing}
use Rattle.scene_edits.specs.declared.changes.Thing.TheVariants as things
use Rattle.scene_edits.specs.declared.edits.EditFault.{EditFault}
use Rattle.scene_edits.specs.declared.edits.EditFault.TheVariants as faults
use Rattle.desk_commits.specs.declared.answers.Refusal.{Refusal}
use Rattle.desk_commits.specs.declared.answers.Refusal.TheVariants as refusals
use Rattle.desk_commits.specs.declared.answers.AskFault.{AskFault}
use Rattle.desk_commits.specs.declared.answers.AskFault.TheVariants as asked
use Rattle.desk_commits.specs.declared.changed.SinceFault.{SinceFault}
use Rattle.desk_commits.specs.declared.changed.SinceFault.TheVariants as since

-- what an edit names or a planner watches
abbrev pub thing_words : Thing → List (List ℕ)
thing_words (things.Agent agent) = codes "agent" ∷ decimal agent ∷ []
thing_words (things.Cell cell) = codes "cell" ∷ cell_text cell ∷ []
thing_words things.Map = codes "map" ∷ []

-- what is wrong with an edit
abbrev pub fault_word : EditFault → List ℕ
fault_word faults.UnknownAgent = codes "unknown-agent"
fault_word faults.AgentTaken = codes "agent-taken"
fault_word faults.TooManyAgents = codes "too-many-agents"
fault_word faults.OutOfMap = codes "out-of-map"
fault_word faults.EmptyPath = codes "empty-path"
fault_word faults.NotFromStart = codes "not-from-start"
fault_word faults.NoSuchTime = codes "no-such-time"
fault_word (faults.NotAStep at) = codes "not-a-step"
fault_word faults.TooLong = codes "too-long"

-- the same, and which cell of a path is no step
abbrev pub fault_words : EditFault → List (List ℕ)
fault_words (faults.NotAStep at) = fault_word (faults.NotAStep at) ∷ decimal at ∷ []
fault_words why = fault_word why ∷ []

-- why a commit is refused
abbrev pub refusal_words : Refusal → List (List ℕ)
refusal_words (refusals.JournalFull limit) = codes "journal-full" ∷ decimal limit ∷ []
refusal_words (refusals.Ahead now) = codes "ahead" ∷ decimal now ∷ []
refusal_words refusals.NoEdits = codes "no-edits" ∷ []
refusal_words (refusals.Stale now thing at) = codes "stale" ∷ decimal now ∷ (thing_words thing ++ decimal at ∷ [])
refusal_words (refusals.Faulty index why) = codes "faulty" ∷ decimal index ∷ fault_words why
refusal_words refusals.OutOfMemory = codes "memory" ∷ []

-- the same as a text, with one space between each two words
abbrev pub refusal_text : Refusal → List ℕ
refusal_text refusal = join_with_byte 32 (refusal_words refusal)

-- why a question isn't answered
abbrev pub asked_words : AskFault → List (List ℕ)
asked_words asked.UnknownAgent = codes "unknown-agent" ∷ []
asked_words asked.OutOfMap = codes "out-of-map" ∷ []
asked_words asked.OutOfMemory = codes "memory" ∷ []

-- why it isn't told what changed since a version
abbrev pub since_words : SinceFault → List (List ℕ)
since_words (since.Ahead now) = codes "ahead" ∷ decimal now ∷ []
since_words (since.Forgotten first) = codes "forgotten" ∷ decimal first ∷ []
since_words since.OutOfMemory = codes "memory" ∷ []

-- a refusal is a line of its own
abbrev pub refused_line : List (List ℕ) → List ℕ
refused_line words = line_text (codes "refused" ∷ words)
