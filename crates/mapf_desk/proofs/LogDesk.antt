-- The desk of a log: what the log had, and what it has.
use Rattle.std.proofs.Common.{◌≡◌, ◌≤◌, inl, ℕ, List, [], ◌++◌, length, take, Option, Some, None, Result, Ok, Err, option_map, unwrap_or, refl, sym, ap, subst, ◌∙◌, arith, length-append}
use Rattle.std.specs.Prelude.{IfOk, MatchOption}
use Rattle.std.specs.List.{All}
use Rattle.std.proofs.Math.Seq.{take-append_seam}
use Rattle.plan_table.specs.declared.tracks.Mode.{Mode}
use Rattle.scene_edits.specs.Scene.{SceneState}
use Rattle.desk_commits.specs.Entries.{Entry}
use Rattle.desk_commits.specs.Replays.{Log}
use Rattle.desk_commits.specs.State.{DeskState, opening}
use Rattle.desk_commits.specs.declared.limits.TheConstants.{MOST_ENTRIES}
use Rattle.desk_commits.proofs.Headline.{entries_make_the_scene_holds}
use Rattle.journal_text.specs.Ranges.{IsEntry}
use Rattle.journal_text.specs.Lines.{journal_text}
use Rattle.journal_text.proofs.BadLines.{one-journal}
use Rattle.commit_log.specs.Text.{head_text, log_text, scene_digest}
use Rattle.desk_log.specs.Keeping.{IsLogged, texts_of}
use Rattle.desk_log.specs.Reading.{IsRead, IsTornHead}
use Rattle.desk_log.specs.declared.reading.LogRead.{LogRead}
use Rattle.desk_cli.specs.declared.words.ServeWords.{ServeWords}
use Rattle.single_runs.specs.Opened.{OpensDesk, Replays}
use Rattle.mapf_desk.specs.Logged.{IsHad}

-- the desk that commits a journal's entries has them
replayed : (mode : Mode) (entries : List Entry) (scene : SceneState) (limit : ℕ) (desk : DeskState) → All IsEntry entries → length entries ≤ MOST_ENTRIES
    → Replays (Some (journal_text mode entries)) scene limit desk → desk.journal ≡ entries
replayed mode entries scene limit desk lawful few (log, reads, replay) =
    let due : Log = record { mode = mode; entries = entries } in
    let same : log ≡ due = one-journal (journal_text mode entries) log due reads.0 (record { few = few; entries = lawful }) reads.1 (inl refl) in
    ap (λ (d : DeskState). d.journal) (replay.1.1 ∙ entries_make_the_scene_holds (opening scene limit) log.entries) ∙ ap (λ (l : Log). l.entries) same

-- the entries that were read stand in a log that was cut behind them
pub logged_of_read : (bytes : List ℕ) (log : LogRead) (text kept : Option (List ℕ)) (count : ℕ) (check : List ℕ) (read : IsRead bytes log)
    → text ≡ Some (take log.end bytes) → kept ≡ text → count ≡ log.count → check ≡ log.check → IsLogged (head_text log.mode log.scene) text kept count check read.entries
logged_of_read bytes log text kept count check read cut settled counted checked =
    let whole = log_text (head_text log.mode log.scene) (texts_of read.entries) in
    let at : log.end ≡ length whole = omega (arith, read.ends, ap length read.split, length-append whole read.rest) in
    let front : take log.end bytes ≡ whole = ap (take log.end) read.split ∙ ap (λ (n : ℕ). take n (whole ++ read.rest)) at ∙ take-append_seam whole read.rest in
    record {
      counts = record { count_is = counted ∙ read.counts.count_is; check_is = checked ∙ read.counts.check_is };
      text_is = cut ∙ ap (λ (t : List ℕ). let some : Option (List ℕ) = Some t in some) front;
      kept_is = settled;
    }

-- what a log had, by what was read of it
pub had_of : (words : ServeWords) (map : List ℕ) (scen : Option (List ℕ)) (bytes head scene : List ℕ) (had : Option LogRead) (journal : Option (List ℕ))
    → scene ≡ scene_digest map (unwrap_or scen []) words.agents → head ≡ head_text words.mode scene
    → MatchOption had (IsTornHead bytes head) (λ log. IsRead bytes log × (log.mode ≡ words.mode) × (log.scene ≡ scene))
    → journal ≡ option_map (λ log. log.journal.items) had → IsHad words map scen bytes journal
had_of words map scen bytes head scene None journal digest is torn same =
    subst (IsHad words map scen bytes) (sym same) (subst (IsTornHead bytes) (is ∙ ap (head_text words.mode) digest) torn)
had_of words map scen bytes head scene (Some log) journal digest is (read, mode, of) same =
    subst (IsHad words map scen bytes) (sym same) (log, read, mode, of ∙ digest, refl)

-- the desk of a log has the entries that stand in it, behind the head of that scene and mode
pub logged_desk : (map : List ℕ) (scen : Option (List ℕ)) (agents : ℕ) (mode asked : Mode) (limit : ℕ) (Torn : Type 0) (bytes head scene digest : List ℕ) (had : Option LogRead) (journal : Option (List ℕ)) (desk : DeskState) (text kept : Option (List ℕ)) (count : ℕ) (check : List ℕ)
    → head ≡ head_text asked scene → scene ≡ digest → MatchOption had Torn (λ log. IsRead bytes log × (log.mode ≡ asked) × (log.scene ≡ scene)) → journal ≡ option_map (λ log. log.journal.items) had → OpensDesk map scen agents mode limit journal desk
    → MatchOption had (IsLogged head text kept count check []) (λ log. (read : IsRead bytes log) → IsLogged (head_text log.mode log.scene) text kept count check read.entries)
    → IsLogged (head_text asked digest) text kept count check desk.journal
logged_desk map scen agents mode asked limit Torn bytes head scene digest None journal desk text kept count check of_head of_digest torn same opens logged =
    let replays : Replays None opens.scene limit desk = subst (λ (j : Option (List ℕ)). Replays j opens.scene limit desk) same opens.replays in
    subst (λ (h : List ℕ). IsLogged h text kept count check desk.journal) (of_head ∙ ap (head_text asked) of_digest)
    (subst (IsLogged head text kept count check) (sym (ap (λ (d : DeskState). d.journal) replays)) logged)
logged_desk map scen agents mode asked limit Torn bytes head scene digest (Some log) journal desk text kept count check of_head of_digest (read, of_mode, of_scene) same opens logged =
    let is : journal ≡ Some (journal_text log.mode read.entries) = same ∙ ap (λ (t : List ℕ). let some : Option (List ℕ) = Some t in some) read.journal in
    let replays = subst (λ (j : Option (List ℕ)). Replays j opens.scene limit desk) is opens.replays in
    subst (λ (h : List ℕ). IsLogged h text kept count check desk.journal) (ap (λ (m : Mode). head_text m log.scene) of_mode ∙ ap (head_text asked) (of_scene ∙ of_digest))
    (subst (IsLogged (head_text log.mode log.scene) text kept count check) (sym (replayed log.mode read.entries opens.scene limit desk read.lawful read.few replays)) (logged read))

-- a log that was cut behind what was read of it, and settled
pub settled_log : (bytes : List ℕ) (had : Option LogRead) (log : LogRead) (Begun : Type 0) (cut text kept : Option (List ℕ)) (end count : ℕ) (check : List ℕ)
    → had ≡ Some log → MatchOption had (end ≡ 0) (λ log. end ≡ log.end) → cut ≡ Some (take end bytes) → text ≡ cut → kept ≡ text → count ≡ log.count → check ≡ log.check
    → MatchOption had Begun (λ log. (read : IsRead bytes log) → IsLogged (head_text log.mode log.scene) text kept count check read.entries)
settled_log bytes had log Begun cut text kept end count check is ends cut_is same settled counted checked =
    let at : end ≡ log.end = subst (λ (h : Option LogRead). MatchOption h (end ≡ 0) (λ log. end ≡ log.end)) is ends in
    let text_is : text ≡ Some (take log.end bytes) = same ∙ cut_is ∙ ap (λ (n : ℕ). let some : Option (List ℕ) = Some (take n bytes) in some) at in
    subst (λ (h : Option LogRead). MatchOption h Begun (λ log. (read : IsRead bytes log) → IsLogged (head_text log.mode log.scene) text kept count check read.entries)) (sym is)
    (λ (read : IsRead bytes log). logged_of_read bytes log text kept count check read text_is settled counted checked)

-- what follows of a value from four facts of it
pub of_four : {T E : Type 0} (r : Result T E) (A B C D G : T → Type 0) → IfOk r A → IfOk r B → IfOk r C → IfOk r D → ((v : T) → A v → B v → C v → D v → G v) → IfOk r G
of_four (Ok v) A B C D G a b c d f = f v a b c d
of_four (Err e) A B C D G a b c d f = tt
