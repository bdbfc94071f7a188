-- Runs of calls leave the desk that their accepted commits make, and entries make the scene after them.
use Rattle.std.proofs.Common.{◌≡◌, List, [], ◌∷◌, ◌++◌, sym, ap, subst, ◌∙◌, append_assoc, append-nil}
use Rattle.desk_commits.specs.Entries.{Entry}
use Rattle.desk_commits.specs.State.{DeskState, grown, scene_after, after}
use Rattle.desk_commits.specs.Replays.{IsLegal}
use Rattle.desk_commits.specs.Runs.{IsCall, accepted_commit, accepted_commits}
use Rattle.desk_commits.specs.Laws.{RunsAreLegal, EntriesMakeTheScene}
use Rattle.desk_commits.specs.declared.answers.Call.{Call}
use Rattle.desk_commits.specs.declared.answers.Call.TheVariants as call
use Rattle.desk_commits.specs.declared.answers.Answer.{Answer}
use Rattle.desk_commits.specs.declared.answers.Answer.TheVariants.{Done, Refused, Shown, Far, AskRefused, Copied, NoMemory}

-- the entries are legal at the desk, and make the new one
abbrev Leads : DeskState → List Entry → DeskState → Type 0
Leads old entries new = IsLegal old entries × (new ≡ after old entries)

-- a call, and what comes of the entries after it
call_leads : (old between new : DeskState) (asked : Call) (answer : Answer) (entries : List Entry) → IsCall old asked answer between → Leads between entries new → Leads old (accepted_commit asked answer ++ entries) new
call_leads old between new (call.Commit commit) (Done version) entries is on =
    let later = subst (λ desk. Leads desk entries new) is.2 on in
    ((is.0, later.0), later.1)
call_leads old between new (call.Commit commit) (Refused refusal back) entries is on = subst (λ desk. Leads desk entries new) is.2 on
call_leads old between new (call.Commit commit) other entries is on = absurd is
call_leads old between new call.Read (Shown reading) entries is on = subst (λ desk. Leads desk entries new) is.1 on
call_leads old between new call.Read NoMemory entries is on = subst (λ desk. Leads desk entries new) is on
call_leads old between new call.Read other entries is on = absurd is
call_leads old between new (call.Distance agent cell) (Far distance) entries is on = subst (λ desk. Leads desk entries new) is.1 on
call_leads old between new (call.Distance agent cell) (AskRefused fault) entries is on = subst (λ desk. Leads desk entries new) is.1 on
call_leads old between new (call.Distance agent cell) other entries is on = absurd is
call_leads old between new call.Snapshot (Copied snapshot) entries is on = subst (λ desk. Leads desk entries new) is.1 on
call_leads old between new call.Snapshot NoMemory entries is on = subst (λ desk. Leads desk entries new) is on
call_leads old between new call.Snapshot other entries is on = absurd is

pub runs_are_legal_holds : RunsAreLegal
runs_are_legal_holds old new [] [] run = (tt, run)
runs_are_legal_holds old new [] (answer ∷ answers) run = absurd run
runs_are_legal_holds old new (asked ∷ calls) [] run = absurd run
runs_are_legal_holds old new (asked ∷ calls) (answer ∷ answers) run =
    call_leads old run.0 new asked answer (accepted_commits calls answers) run.1 (runs_are_legal_holds run.0 new calls answers run.2)

pub entries_make_the_scene_holds : EntriesMakeTheScene
entries_make_the_scene_holds desk [] = ap (λ (journal : List Entry). record desk { journal = journal }) (sym (append-nil desk.journal))
entries_make_the_scene_holds desk (entry ∷ later) =
    entries_make_the_scene_holds (grown desk entry) later
    ∙ ap (λ (journal : List Entry). record desk { scene = scene_after (grown desk entry).scene later; journal = journal }) (append_assoc desk.journal (entry ∷ []) later)
