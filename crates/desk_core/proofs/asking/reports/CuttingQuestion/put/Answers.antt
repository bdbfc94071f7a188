use Rattle.std.proofs.Common.{◌≡◌, ◌∙◌, ℕ, List, All, sym, ap, subst}
use Rattle.scene_edits.specs.Scene.{SceneState}
use Rattle.desk_commits.specs.State.{DeskState, version_of}
use Rattle.desk_commits.specs.Questions.{IsKnown, ShowsCut}
use Rattle.desk_core.proofs.asking.reports.CuttingQuestion.put.Goals as goal

pub returns-in-Ok-clause-answer : goal.returns-in-Ok-clause-answer
returns-in-Ok-clause-answer c =
    let desk : DeskState = c.args.desk.now in
    let agents : List ℕ = c.args.self.now.agents in
    let same : c.desk.inside.scene ≡ desk.scene = ap (λ (d : DeskState). d.scene) c.desk.view_is in
    let live : All (IsKnown c.desk.inside.scene) c.items-agents.result.now = c.all_live.ensures.0 c.if-not-all_live.false in
    let here : desk.scene ≡ c.desk-2.inside.scene = sym (ap (λ (d : DeskState). d.scene) (c.desk-2.view_is ∙ c.in_ok-books.ensures.same)) in
    let cut = c.in-Ok.ensures.cut desk here in
    let version : c.version-version.result ≡ version_of desk = c.version-version.ensures.is in
    let told : ShowsCut desk agents (record { version = version_of desk; report = c.in-Ok.report }) = subst (λ (a : List ℕ). ShowsCut desk a (record { version = version_of desk; report = c.in-Ok.report })) c.items-agents.ensures cut in (
      subst (λ (s : SceneState). All (IsKnown s) agents) same (subst (λ (a : List ℕ). All (IsKnown c.desk.inside.scene) a) c.items-agents.ensures live),
      subst (λ (v : ℕ). ShowsCut desk agents (record { version = v; report = c.in-Ok.report })) (sym version) told,
    )

pub returns-in-Err-clause-answer : goal.returns-in-Err-clause-answer
returns-in-Err-clause-answer c =
    let agents : List ℕ = c.args.self.now.agents in
    let same : c.desk.inside.scene ≡ c.args.desk.now.scene = ap (λ (d : DeskState). d.scene) c.desk.view_is in
    let live : All (IsKnown c.desk.inside.scene) c.items-agents.result.now = c.all_live.ensures.0 c.if-not-all_live.false in
    subst (λ (s : SceneState). All (IsKnown s) agents) same (subst (λ (a : List ℕ). All (IsKnown c.desk.inside.scene) a) c.items-agents.ensures live)
