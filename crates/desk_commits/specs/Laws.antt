-- What holds of all desks and journals.
use Rattle.std.specs.Prelude.{◌≡◌, ◌≢◌, ◌⊎◌, ℕ, ◌≤◌, List, ◌++◌, Result, Ok, Err}
use Rattle.scene_edits.specs.Scene.{SceneState}
use Rattle.desk_commits.specs.Entries.{Entry}
use Rattle.desk_commits.specs.State.{DeskState, opening, scene_after, after}
use Rattle.desk_commits.specs.Commits.{Committed}
use Rattle.desk_commits.specs.Runs.{IsRun, accepted_commits}
use Rattle.desk_commits.specs.Replays.{IsLegal, IsReplay}
use Rattle.desk_commits.specs.declared.answers.Answer.{Answer}
use Rattle.desk_commits.specs.declared.answers.Call.{Call}
use Rattle.desk_commits.specs.declared.answers.Refusal.{Refusal}
use Rattle.desk_commits.specs.declared.answers.Refusal.TheVariants as why
use Rattle.desk_commits.specs.declared.journals.ReplayFault.{ReplayFault}
use Rattle.desk_commits.specs.declared.journals.ReplayFault.TheVariants as fault

-- a commit wasn't refused for want of memory
abbrev pub HasMemory : Result ℕ (Refusal × Entry) → Type 0
HasMemory result = (back : Entry) → result ≢ Err (why.OutOfMemory, back)

-- besides want of memory a commit has one answer, and leaves one desk
abbrev pub OneAnswerToACommit : Type 0
OneAnswerToACommit = (old new next : DeskState) (commit : Entry) (result other : Result ℕ (Refusal × Entry)) → Committed old commit result new → Committed old commit other next → HasMemory result → HasMemory other → (result ≡ other) × (new ≡ next)

-- a journal that is legal at the opening of a scene replays on that scene, under the same limit or a greater one: it is
-- refused for no other cause than memory
abbrev pub LegalJournalsReplay : Type 0
LegalJournalsReplay = (scene : SceneState) (limit larger : ℕ) (entries : List Entry) (result : Result DeskState ReplayFault) → limit ≤ larger → IsLegal (opening scene limit) entries → IsReplay scene larger (record { mode = scene.mode; entries = entries }) result → (result ≡ Ok (after (opening scene larger) entries)) ⊎ (result ≡ Err fault.OutOfMemory)

-- whatever the calls, the commits that were accepted are a legal journal at the desk before, and the desk after is the one that they make
abbrev pub RunsAreLegal : Type 0
RunsAreLegal = (old new : DeskState) (calls : List Call) (answers : List Answer) → IsRun old calls answers new → IsLegal old (accepted_commits calls answers) × (new ≡ after old (accepted_commits calls answers))

-- entries make of a desk's scene the scene after them, and come after its journal
abbrev pub EntriesMakeTheScene : Type 0
EntriesMakeTheScene = (desk : DeskState) (entries : List Entry) → after desk entries ≡ record { start = desk.start; scene = scene_after desk.scene entries; journal = desk.journal ++ entries; limit = desk.limit }
