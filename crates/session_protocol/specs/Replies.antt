-- The text of a reply, and of a session (this project's choice).
use Rattle.std.specs.Prelude.{◌||◌, ℕ, ◌-◌, nat_eq, Bool, true, false, not, List, [], ◌∷◌, ◌++◌, length, map, take_while, codes, decimal}
use Rattle.std.specs.List.{flat_map}
use Rattle.std.specs.Str.{bytes_eq}
use Rattle.plan_table.specs.declared.plans.Row.{Row}
use Rattle.desk_report.specs.LineText.{line_text, cell_text, given_text, answer_text}
use Rattle.desk_report.specs.ReportText.{report_text}
use Rattle.desk_report.specs.ChangesText.{changes_text, trial_text}
use Rattle.desk_report.specs.declared.changed.Changes.{Changes}
use Rattle.desk_report.specs.declared.reports.Report.{Report}
use Rattle.session_protocol.specs.RefusalText.{refusal_words, asked_words, since_words, refused_line}
use Rattle.session_protocol.specs.declared.replies.BadLine.{BadLine}
use Rattle.session_protocol.specs.declared.replies.BadLine.TheVariants.{Word, Shape, NotBegun, Full}
use Rattle.session_protocol.specs.declared.replies.Reply.{Reply}
use Rattle.session_protocol.specs.declared.replies.Reply.TheVariants.{Silent, Bad, NoMemory, Version, Base, Kept, Cancelled, Refused, Would, Changed, NotTold, Shown, Far, NotAsked, Solves, Planned, Open, Standing}

abbrev pub bad_word : BadLine → List ℕ
bad_word Word = codes "word"
bad_word Shape = codes "shape"
bad_word NotBegun = codes "notbegun"
bad_word Full = codes "full"

abbrev pub version_line : ℕ → List ℕ
version_line version = line_text (codes "version" ∷ decimal version ∷ [])

-- a report at its version
abbrev pub reported_text : ℕ → Report → List ℕ
reported_text version report = version_line version ++ report_text report

-- an agent's goal, and its path, which has no wait at its end
abbrev pub plan_line : ℕ → Row → List ℕ
plan_line agent row = line_text (codes "plan" ∷ decimal agent ∷ cell_text row.goal ∷ map cell_text row.plan)

-- whether a cell is open
abbrev pub cell_word : Bool → List ℕ
cell_word true = codes "open"
cell_word false = codes "closed"

-- how many agents stand there, and which
abbrev pub standing_line : List ℕ → List ℕ
standing_line agents = line_text (codes "at" ∷ decimal (length agents) ∷ map decimal agents)

-- what a commit would change from the version before the one that it would make
abbrev pub would_text : ℕ → Changes → List ℕ
would_text version changes = trial_text version (version - 1) changes

abbrev pub reply_text : Reply → List ℕ
reply_text Silent = []
reply_text (Bad line why) = line_text (codes "bad" ∷ decimal line ∷ bad_word why ∷ [])
reply_text NoMemory = line_text (codes "refused" ∷ codes "memory" ∷ [])
reply_text (Version version) = version_line version
reply_text (Base version) = line_text (codes "base" ∷ decimal version ∷ [])
reply_text Kept = line_text (codes "kept" ∷ [])
reply_text Cancelled = line_text (codes "cancelled" ∷ [])
reply_text (Refused refusal) = refused_line (refusal_words refusal)
reply_text (Would version changes) = would_text version changes
reply_text (Changed version since changes) = changes_text version since changes
reply_text (NotTold fault) = refused_line (since_words fault)
reply_text (Shown reading) = reported_text reading.version reading.report
reply_text (Far distance) = line_text (codes "distance" ∷ given_text distance ∷ [])
reply_text (NotAsked fault) = refused_line (asked_words fault)
reply_text (Solves is_so) = line_text (codes "solves" ∷ answer_text is_so ∷ [])
reply_text (Planned agent row) = plan_line agent row
reply_text (Open is_so) = line_text (codes "cell" ∷ cell_word is_so ∷ [])
reply_text (Standing agents) = standing_line agents

-- the word begins an answer that takes its line
abbrev pub is_acceptance : List ℕ → Bool
is_acceptance word =
    bytes_eq word (codes "version") || bytes_eq word (codes "base") || bytes_eq word (codes "kept")
    || bytes_eq word (codes "cancelled") || bytes_eq word (codes "would") || bytes_eq word (codes "distance") || bytes_eq word (codes "solves")
    || bytes_eq word (codes "plan") || bytes_eq word (codes "cell") || bytes_eq word (codes "at")

-- what stands in a text before its first blank or line feed
abbrev pub first_word : List ℕ → List ℕ
first_word text = take_while (λ byte. not (nat_eq byte 32 || nat_eq byte 10)) text

-- an answer is empty, or begins with such a word, or with `refused` or `bad`
abbrev pub begins_as_listed : Reply → Bool
begins_as_listed reply =
    let word = first_word (reply_text reply) in
    bytes_eq word [] || is_acceptance word || bytes_eq word (codes "refused") || bytes_eq word (codes "bad")

-- the replies, one after the other
abbrev pub session_text : List Reply → List ℕ
session_text replies = flat_map reply_text replies
