-- The history of a journal with one entry more, and one that begins.
use Rattle.std.proofs.Common.{◌≡◌, ℕ, ◌+◌, ◌≤◌, List, [], ◌∷◌, ◌++◌, length, take, refl, sym, ap, subst, ◌∙◌, arith}
use Rattle.std.proofs.lemmas.List.{take_all, take-append-le, length_push}
use Rattle.scene_edits.specs.Scene.{SceneState, IsScene}
use Rattle.desk_report.specs.Laws.{OneReport}
use Rattle.desk_report.specs.declared.reports.Report.{Report}
use Rattle.live_report.specs.Changed.{HasReport}
use Rattle.live_report.specs.Histories.{HistoryState, Keeps, Recounts, IsFollowed}
use Rattle.live_report.specs.Turnovers.{IsTurnover}
use Rattle.live_report.proofs.Recounting.{recounts_as, recounts_more, recounts_none}
use Rattle.live_report.specs.declared.turnovers.Turnover.{Turnover}
use Rattle.desk_commits.specs.Entries.{Entry}
use Rattle.desk_commits.specs.State.{scene_after}
use Rattle.desk_core.specs.Histories.{IsReported, IsReportAt, RecountsEntries}

one_reported : OneReport → (scene : SceneState) (a b : Report) → IsReported scene a → IsReported scene b → a ≡ b
one_reported one scene a b this that = one scene.grid scene.mode scene.rows a b this.is_report that.is_report

-- at its last version a journal makes its scene
made_last : (start : SceneState) (journal : List Entry) (version : ℕ) → length journal ≤ version → scene_after start (take version journal) ≡ scene_after start journal
made_last start journal version past = ap (scene_after start) (take_all version journal past)

-- at an earlier version one entry more changes nothing
made_before : (start : SceneState) (journal : List Entry) (entry : Entry) (version : ℕ) → version ≤ length journal → scene_after start (take version (journal ++ entry ∷ [])) ≡ scene_after start (take version journal)
made_before start journal entry version within = ap (scene_after start) (take-append-le version journal (entry ∷ []) within)

reported_last : (start scene : SceneState) (journal : List Entry) (version : ℕ) → length journal ≤ version → scene ≡ scene_after start journal → IsScene scene → HasReport scene → (report : Report) × IsReportAt start journal version report
reported_last start scene journal version past made is_scene has =
    (has.0, subst (λ (s : SceneState). IsReported s has.0) (made ∙ sym (made_last start journal version past)) (record { is_scene = is_scene; is_report = has.1 }))

-- one entry more
pub recounts_entry : OneReport → (start scene : SceneState) (journal : List Entry) (entry : Entry) (old new : HistoryState) (turnover : Turnover)
    → IsScene scene → scene ≡ scene_after start (journal ++ entry ∷ []) → HasReport scene → RecountsEntries start journal old → Keeps old turnover new → IsFollowed turnover
    → ((was now : Report) → IsReported (scene_after start journal) was → IsReported scene now → IsTurnover was now turnover) → RecountsEntries start (journal ++ entry ∷ []) new
recounts_entry one start scene journal entry old new turnover is_scene made has is keeps followed over =
    let all : List Entry = journal ++ entry ∷ [] in
    let many : length all ≡ length journal + 1 = length_push journal entry in
    let past : length all ≤ length journal + 1 = omega (arith, many) in
    let last = reported_last start scene all (length journal + 1) past made is_scene has in
    let was : Recounts (IsReportAt start all) is.0 (length journal) old =
    recounts_as (IsReportAt start journal) (IsReportAt start all) is.0 (length journal) old
    (λ version report from within at. subst (λ (s : SceneState). IsReported s report) (sym (made_before start journal entry version within)) at)
    (λ version report from within at. subst (λ (s : SceneState). IsReported s report) (made_before start journal entry version within) at)
    is.1 in
    let more : Recounts (IsReportAt start all) (is.0 + keeps.lost) (length journal + 1) new =
    recounts_more (IsReportAt start all) is.0 (length journal) old turnover new was followed keeps
    (λ a b this that. one_reported one (scene_after start (take (length journal + 1) all)) a b this that)
    last.0 last.1
    (λ a b at to. over a b
    (subst (λ (s : SceneState). IsReported s a) (made_before start journal entry (length journal) (omega arith) ∙ made_last start journal (length journal) (omega arith)) at)
    (subst (λ (s : SceneState). IsReported s b) (made_last start all (length journal + 1) past ∙ sym made) to)) in
    (is.0 + keeps.lost, subst (λ (n : ℕ). Recounts (IsReportAt start all) (is.0 + keeps.lost) n new) (sym many) more)

-- a history of no versions
pub recounts_begun : OneReport → (start scene : SceneState) (journal : List Entry) (history : HistoryState) → IsScene scene → scene ≡ scene_after start journal → HasReport scene
    → history.conflicts ≡ [] → history.visits ≡ [] → history.lines ≡ [] → RecountsEntries start journal history
recounts_begun one start scene journal history is_scene made has conflicts visits lines =
    let last = reported_last start scene journal (length journal) (omega arith) made is_scene has in (
      length journal,
      recounts_none (IsReportAt start journal) (length journal) history
          (λ a b this that. one_reported one (scene_after start (take (length journal) journal)) a b this that)
          last.0 last.1 conflicts visits lines,
    )
