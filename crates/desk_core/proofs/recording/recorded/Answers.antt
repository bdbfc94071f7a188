use Rattle.std.proofs.Common.{◌≡◌, ◌∙◌, sym}
use Rattle.desk_commits.specs.State.{scene_after}
use Rattle.live_report.specs.Histories.{Keeps, IsFollowed}
use Rattle.desk_core.proofs.Optional.{of_ok}
use Rattle.desk_core.proofs.Recorded.{recounts_entry}
use Rattle.desk_core.proofs.recording.recorded.Goals as goal

pub follow_telling-requires : goal.follow_telling-requires
follow_telling-requires c = record { before = c.requires.0; changed = c.requires.1; are = c.requires.2 c.in-Some-books.books c.in-Some-books.is }

pub returns-in-Ok-clause-history : goal.returns-in-Ok-clause-history
returns-in-Ok-clause-history c = λ start journal entry by stand made was. λ new is.
    let pushed = sym c.ok.ensures.value ∙ is in
    let followed : IsFollowed c.in-Ok.turnover = of_ok c.push.result (λ _. IsFollowed c.in-Ok.turnover) new pushed c.push.ensures.followed in
    let keeps : Keeps c.in-Some.history c.in-Ok.turnover new = of_ok c.push.result (Keeps c.in-Some.history c.in-Ok.turnover) new pushed c.push.ensures.kept in
    recounts_entry c.one_report.ensures start c.args.scene.now journal entry c.in-Some.history new c.in-Ok.turnover c.plans-plans.ensures.scene made c.report_is_there.ensures
    (was c.in-Some.history c.in-Some.is) keeps followed
    (λ old now reported shown. c.in-Ok.ensures.told (scene_after start journal) old now by (stand c.in-Some-books.books c.in-Some-books.is) reported.is_report shown.is_report)
