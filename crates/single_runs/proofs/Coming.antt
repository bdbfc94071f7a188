-- A desk that was served a session goes on from the one before it, by entries that are legal there.
use Rattle.std.proofs.Common.{◌≡◌, ℕ, List, [], ◌∷◌, ◌++◌, Option, Some, None, Result, Ok, Err, refl, sym, ap, subst, ◌∙◌}
use Rattle.scene_edits.specs.Scene.{SceneState}
use Rattle.desk_commits.specs.Commits.{Committed}
use Rattle.desk_commits.specs.Entries.{Entry}
use Rattle.desk_commits.specs.Replays.{IsLegal}
use Rattle.desk_commits.specs.State.{DeskState, opening, grown, after}
use Rattle.desk_commits.specs.declared.answers.Refusal.{Refusal}
use Rattle.session_protocol.specs.Answer.{answering_in}
use Rattle.desk_commits.specs.Counting.{desk_counting}
use Rattle.session_protocol.specs.Session.{Serves}
use Rattle.session_protocol.specs.declared.bounds.Bounds.{Bounds}
use Rattle.session_protocol.specs.declared.bounds.ServeFault.{ServeFault}
use Rattle.session_lines.specs.declared.versions.LinesVersion.{LinesVersion}
use Rattle.session_protocol.specs.declared.drafts.Session.{Session}
use Rattle.session_protocol.proofs.Staying.{IsKept, serves}
use Rattle.single_runs.specs.Opened.{Replays}

-- the desk after entries that are legal at the one before
pub record GoesOn (old new : DeskState) : Type 0 where
  pub entries : List Entry
  pub legal : IsLegal old entries
  pub made : new ≡ after old entries

legal_both : (desk : DeskState) (first second : List Entry) → IsLegal desk first → IsLegal (after desk first) second → IsLegal desk (first ++ second)
legal_both desk [] second legal later = later
legal_both desk (entry ∷ first) second legal later = (legal.0, legal_both (grown desk entry) first second legal.1 later)

after_both : (desk : DeskState) (first second : List Entry) → after desk (first ++ second) ≡ after (after desk first) second
after_both desk [] second = refl
after_both desk (entry ∷ first) second = after_both (grown desk entry) first second

stays : (old new : DeskState) → new ≡ old → GoesOn old new
stays old new same = record { entries = []; legal = tt; made = same }

pub goes_on : (r s t : DeskState) → GoesOn r s → GoesOn s t → GoesOn r t
goes_on r s t first second =
    record {
      entries = first.entries ++ second.entries;
      legal = legal_both r first.entries second.entries first.legal (subst (λ d. IsLegal d second.entries) first.made second.legal);
      made = second.made ∙ ap (λ (d : DeskState). after d second.entries) first.made ∙ sym (after_both r first.entries second.entries);
    }

commits : (old new : DeskState) (commit : Entry) (result : Result ℕ (Refusal × Entry)) → Committed old commit result new → GoesOn old new
commits old new commit (Ok version) made = record { entries = commit ∷ []; legal = (made.0, tt); made = made.2 }
commits old new commit (Err (refusal, back)) made = stays old new made.2

desk_kept : IsKept desk_counting GoesOn
desk_kept = record {
  same = λ s. stays s s refl;
  joined = goes_on;
  versions = λ old new version told. stays old new told.1;
  commits = commits;
  reads = λ old new result read. stays old new read.1;
  tells = λ old new agent cell result told. stays old new told.1;
  asks = λ X old new IsAnswer answer told. stays old new told.1;
}

-- a session over a desk
pub session_goes_on : (version : LinesVersion) (bounds : Bounds) (left0 left1 held0 held1 : Option (List ℕ)) (first last : Session) (old new : DeskState) (ended : Result ℕ ServeFault) → Serves (answering_in version desk_counting) bounds left0 left1 held0 held1 (first, old) (last, new) ended → GoesOn old new
session_goes_on version bounds left0 left1 held0 held1 first last old new ended served = serves version desk_counting GoesOn desk_kept bounds left0 left1 held0 held1 (first, old) (last, new) ended served

-- a desk that commits a journal's entries at its opening
pub opening_goes_on : (journal : Option (List ℕ)) (scene : SceneState) (limit : ℕ) (desk : DeskState) → Replays journal scene limit desk → GoesOn (opening scene limit) desk
opening_goes_on None scene limit desk is = stays (opening scene limit) desk is
opening_goes_on (Some text) scene limit desk (log, reads, replay) = record { entries = log.entries; legal = replay.1.0; made = replay.1.1 }
