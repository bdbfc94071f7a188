-- What is saved of a desk gives the desk back where it was opened.
use Rattle.std.proofs.Common.{◌≡◌, ◌≤◌, ◌⊎◌, ℕ, List, [], ◌∷◌, Some, Result, Ok, Err, inl, inr, refl, sym, ap, subst, ◌∙◌}
use Rattle.scene_edits.specs.Scene.{SceneState}
use Rattle.scene_edits.proofs.Returning.{edits_keep_size_holds}
use Rattle.scene_edits.specs.InOrder.{edited_all}
use Rattle.desk_commits.specs.Entries.{Entry}
use Rattle.desk_commits.specs.Questions.{ShowsReport}
use Rattle.desk_commits.specs.Replays.{Log, IsReplay}
use Rattle.desk_commits.specs.State.{DeskState, opening, scene_after, after}
use Rattle.desk_commits.specs.declared.answers.Reading.{Reading}
use Rattle.desk_commits.specs.declared.journals.ReplayFault.{ReplayFault}
use Rattle.desk_commits.proofs.Headline.{entries_make_the_scene_holds}
use Rattle.desk_commits.proofs.LegalJournals.{legal_journals_replay_holds}
use Rattle.journal_text.specs.Ranges.{IsJournal}
use Rattle.journal_text.specs.Reading.{ReadsAs}
use Rattle.journal_text.specs.declared.faults.JournalFault.{JournalFault}
use Rattle.journal_text.proofs.BadLines.{one-journal}
use Rattle.journal_text.proofs.OneAnswer.{reads_back}
use Rattle.solver_check.specs.Faults.{as_told}
use Rattle.single_runs.specs.Opened.{ReplaysAs}
use Rattle.single_runs.specs.Saved.{SavedDesksComeBack, log_of, saved_text, under}
use Rattle.solver_check.specs.declared.faults.RunFault.{RunFault}
use Rattle.solver_check.specs.declared.faults.RunFault.TheVariants.{Journal, Replay, OutOfMemory}
use Rattle.single_runs.proofs.Coming.{GoesOn, goes_on, session_goes_on, opening_goes_on}

same_mode : (scene : SceneState) (entries : List Entry) → (scene_after scene entries).mode ≡ scene.mode
same_mode scene [] = refl
same_mode scene (entry ∷ later) = same_mode (edited_all scene entry.edits) later ∙ (edits_keep_size_holds scene entry.edits).1

-- the desk comes back, or there was no memory
abbrev ComesBack : ℕ → DeskState → Result DeskState RunFault → Type 0
ComesBack limit desk result = (result ≡ Ok (under limit desk)) ⊎ (result ≡ Err OutOfMemory)

-- the answer of a run by the answer of a replay, and by what a journal's text reads as
abbrev replay_answer : Result DeskState ReplayFault → Result DeskState RunFault
replay_answer (Ok desk) = Ok desk
replay_answer (Err why) = Err (as_told (Replay why))

abbrev text_fault : Result Log JournalFault → RunFault
text_fault (Ok log) = OutOfMemory
text_fault (Err why) = as_told (Journal why)

abbrev failed : RunFault → Result DeskState RunFault
failed fault = Err fault

module _ (scene : SceneState) (limit larger : ℕ) (desk : DeskState) (on : GoesOn (opening scene limit) desk) (lawful : IsJournal (log_of desk)) (more : limit ≤ larger) where
  -- the entries that made the desk, its journal, and its mode
  is_made : desk ≡ record { start = scene; scene = scene_after scene on.entries; journal = on.entries; limit = limit }
  is_made = on.made ∙ entries_make_the_scene_holds (opening scene limit) on.entries

  same_log : log_of desk ≡ record { mode = scene.mode; entries = on.entries }
  same_log = λ i. record { mode = ((λ j. (is_made j).scene.mode) ∙ same_mode scene on.entries) i; entries = (is_made i).journal }

  larger_made : after (opening scene larger) on.entries ≡ under larger desk
  larger_made = entries_make_the_scene_holds (opening scene larger) on.entries ∙ sym (ap (λ (d : DeskState). under larger d) is_made)

  replayed : (log : Log) (result : Result DeskState ReplayFault) → ReadsAs (saved_text desk) (Ok log) → IsReplay scene larger log result → ComesBack larger desk (replay_answer result)
  replayed log result reads replay =
      let same : log ≡ log_of desk = one-journal (saved_text desk) log (log_of desk) reads.0 lawful reads.1 (inl refl) in
      let again = subst (λ (l : Log). IsReplay scene larger l result) (same ∙ same_log) replay in
      elim (legal_journals_replay_holds scene limit larger on.entries result more on.legal again) [
        | inl back ↦ inl (ap replay_answer back ∙ ap (λ (d : DeskState). let r : Result DeskState RunFault = Ok d in r) larger_made)
        | inr none ↦ inr (ap replay_answer none)
      ]

  pub comes_back : (result : Result DeskState RunFault) → ReplaysAs (Some (saved_text desk)) scene larger result → ComesBack larger desk result
  comes_back (Ok back) (log, reads, replay) = replayed log (Ok back) reads replay
  comes_back (Err fault) (inl is) =
      inr (ap failed is.told ∙ elim (reads_back (log_of desk) (saved_text desk) (Err is.why) lawful (inl refl) is.first) [
        | inl e ↦ ap (λ (r : Result Log JournalFault). failed (text_fault r)) e
        | inr e ↦ ap (λ (r : Result Log JournalFault). failed (text_fault r)) e
      ])
  comes_back (Err fault) (inr is) =
      elim (replayed is.log (Err is.why) is.reads is.first) [
        | inl back ↦ inl (ap failed is.told ∙ back)
        | inr none ↦ inr (ap failed is.told ∙ none)
      ]

-- a reading doesn't look at the limit
shows_under : (limit : ℕ) (desk : DeskState) (reading : Reading) → ShowsReport desk reading → ShowsReport (under limit desk) reading
shows_under limit desk reading shown = record { version = shown.version; report = shown.report; priced = shown.priced }

pub saved_desks_come_back_holds : SavedDesksComeBack
saved_desks_come_back_holds version journal scene limit larger start desk bounds left0 left1 held0 held1 first last ended result opened served lawful more replays =
    let on = goes_on (opening scene limit) start desk (opening_goes_on journal scene limit start opened) (session_goes_on version bounds left0 left1 held0 held1 first last start desk ended served) in
    elim (comes_back scene limit larger desk on lawful more result replays) [
      | inl back ↦ inl (back, shows_under larger desk)
      | inr none ↦ inr none
    ]
