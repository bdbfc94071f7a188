-- One call of the desk, and runs of calls.
use Rattle.std.specs.Prelude.{◌≡◌, List, [], ◌∷◌, ◌++◌, Ok, Err}
use Rattle.desk_commits.specs.Entries.{Entry}
use Rattle.desk_commits.specs.State.{DeskState}
use Rattle.desk_commits.specs.Commits.{Committed}
use Rattle.desk_commits.specs.Questions.{ShowsReport, AnswersDistance, Copies}
use Rattle.desk_commits.specs.declared.answers.Call.{Call}
use Rattle.desk_commits.specs.declared.answers.Call.TheVariants as call
use Rattle.desk_commits.specs.declared.answers.Answer.{Answer}
use Rattle.desk_commits.specs.declared.answers.Answer.TheVariants.{Done, Refused, Shown, Far, AskRefused, Copied, NoMemory}

-- a call at a desk, what is answered, and the desk that it leaves: only an accepted commit changes it
abbrev pub IsCall : DeskState → Call → Answer → DeskState → Type 0
IsCall old (call.Commit commit) (Done version) new = Committed old commit (Ok version) new
IsCall old (call.Commit commit) (Refused refusal back) new = Committed old commit (Err (refusal, back)) new
IsCall old (call.Commit commit) other new = ⊥
IsCall old call.Read (Shown reading) new = ShowsReport old reading × (new ≡ old)
IsCall old call.Read NoMemory new = new ≡ old
IsCall old call.Read other new = ⊥
IsCall old (call.Distance agent cell) (Far distance) new = AnswersDistance old.scene agent cell (Ok distance) × (new ≡ old)
IsCall old (call.Distance agent cell) (AskRefused fault) new = AnswersDistance old.scene agent cell (Err fault) × (new ≡ old)
IsCall old (call.Distance agent cell) other new = ⊥
IsCall old call.Snapshot (Copied snapshot) new = Copies old snapshot × (new ≡ old)
IsCall old call.Snapshot NoMemory new = new ≡ old
IsCall old call.Snapshot other new = ⊥

-- calls one after the other, with what each is answered, and the desk that the last one leaves
abbrev pub IsRun : DeskState → List Call → List Answer → DeskState → Type 0
IsRun old [] [] new = new ≡ old
IsRun old [] (answer ∷ answers) new = ⊥
IsRun old (asked ∷ calls) [] new = ⊥
IsRun old (asked ∷ calls) (answer ∷ answers) new = (between : DeskState) × IsCall old asked answer between × IsRun between calls answers new

-- the commit of a call, if it was accepted
abbrev pub accepted_commit : Call → Answer → List Entry
accepted_commit (call.Commit commit) (Done version) = commit ∷ []
accepted_commit asked other = []

-- the commits of calls that were accepted, in order
abbrev pub accepted_commits : List Call → List Answer → List Entry
accepted_commits [] answers = []
accepted_commits (asked ∷ calls) [] = []
accepted_commits (asked ∷ calls) (answer ∷ answers) = accepted_commit asked answer ++ accepted_commits calls answers
