-- What changed from the report of one version to that of another.
use Rattle.std.proofs.Common.{◌≡◌, ℕ, ◌-◌, ◌≤◌, List, length, take, refl, sym, ap, subst, ◌∙◌, arith}
use Rattle.change_history.proofs.Leading.{follow_none, same_refl}
use Rattle.scene_edits.specs.Scene.{SceneState, IsScene}
use Rattle.desk_report.specs.Laws.{SettleIsBoundAndGap}
use Rattle.desk_report.specs.declared.changed.Changes.{Changes}
use Rattle.desk_report.specs.declared.reports.Report.{Report}
use Rattle.live_report.specs.Changed.{AreChangesBy}
use Rattle.live_report.specs.Histories.{HistoryState, Recounts, TellsSince, IsNone}
use Rattle.live_report.specs.Turnovers.{IsTurnover}
use Rattle.live_report.specs.declared.turnovers.Turnover.{Turnover}
use Rattle.live_report.proofs.Recounting.{recounts_since}
use Rattle.desk_commits.specs.Changed.{HasChanged}
use Rattle.desk_commits.specs.Entries.{Entry}
use Rattle.desk_commits.specs.Questions.{ShowsReport}
use Rattle.desk_commits.specs.State.{DeskState, version_of, scene_after}
use Rattle.desk_commits.proofs.OnMap.{paths_on}
use Rattle.desk_core.specs.Histories.{IsReported, IsReportAt, LeadsOver}
use Rattle.desk_core.proofs.Versions.{take_whole}

shows : SettleIsBoundAndGap → (desk : DeskState) (report : Report) → IsReported desk.scene report → ShowsReport desk (record { version = version_of desk; report = report })
shows law desk report is = record {
  version = refl;
  report = is.is_report;
  priced = law desk.scene.grid desk.scene.mode desk.scene.rows report (paths_on desk.scene is.is_scene) is.is_report;
}

-- what changed by a turnover from the one desk's scene to the other's
pub has_changed : SettleIsBoundAndGap → (old new : DeskState) (turnover : Turnover) (changes : Changes) → IsScene new.scene → LeadsOver old.scene new.scene turnover → AreChangesBy turnover new.scene changes → HasChanged old new changes
has_changed law old new turnover changes is_scene leads by =
    let now : IsReported new.scene by.new = record { is_scene = is_scene; is_report = by.is } in
    let lead = leads by.new now in
    record {
      before = record { version = version_of old; report = lead.0 };
      after = record { version = version_of new; report = by.new };
      was = shows law old lead.0 lead.1;
      is = shows law new by.new now;
      changed = by.told old.scene.grid old.scene.mode old.scene.rows lead.0 lead.1.is_scene.by_agent lead.1.is_report lead.2;
    }

-- nothing leads from a scene to itself
pub leads_nowhere : (old new : SceneState) (turnover : Turnover) → old ≡ new → IsNone turnover → LeadsOver old new turnover
leads_nowhere old new turnover same none = λ now reported. (
  now,
  subst (λ (s : SceneState). IsReported s now) (sym same) reported,
  record {
    conflicts = λ followed. rw none.conflicts (follow_none now.conflicts now.conflicts (same_refl now.conflicts));
    visits = λ followed. rw none.visits (follow_none now.visits now.visits (same_refl now.visits));
    lines = λ followed. rw none.lines (follow_none now.lines now.lines (same_refl now.lines));
  },
)

-- what the history has since a version leads from its scene to the present one
pub leads_since : (start scene : SceneState) (journal : List Entry) (history : HistoryState) (first version place : ℕ) (turnover : Turnover)
    → Recounts (IsReportAt start journal) first (length journal) history → scene ≡ scene_after start journal → first ≤ version → version ≤ length journal → place ≡ version - first
    → TellsSince history place turnover → LeadsOver (scene_after start (take version journal)) scene turnover
leads_since start scene journal history first version place turnover recounts made from within at tells = λ now reported.
    let was = recounts.there version from within in
    let here : scene ≡ scene_after start (take (length journal) journal) = made ∙ ap (scene_after start) (sym (take_whole journal)) in
    let is : IsReportAt start journal (length journal) now = subst (λ (s : SceneState). IsReported s now) here reported in
    let told : TellsSince history (version - first) turnover = subst (λ n. TellsSince history n turnover) at tells in
    (was.0, was.1, recounts_since (IsReportAt start journal) first (length journal) history recounts version from within turnover told was.0 now was.1 is)
