use Rattle.std.proofs.Common.{◌≡◌, ℕ, ◌+◌, [], ◌∙◌, refl, subst, sym}
use Rattle.shared_runs.proofs.Joining.{none_hosted}
use Rattle.shared_runs.proofs.Numbering.{may_give, next_number}
use Rattle.desk_commits.specs.State.{DeskState}
use Rattle.desk_shared.specs.Passes.{own_of}
use Rattle.shared_runs.proofs.KeptLog.{kept_at_split}
use Rattle.shared_runs.proofs.Scribing.{joined_unused, logged_hosted}
use Rattle.shared_runs.specs.Logged.{IsKept}
use Rattle.shared_runs.proofs.Sitting.{as_promised}
use Rattle.shared_runs.specs.Hosts.{IsEnded}
use Rattle.shared_runs.proofs.hosts.operating.operate_logged.Goals as goal
use Rattle.shared_runs.proofs.hosts.operating.operate_logged.Goals.{in-Ok-operator, in-Err}

pub unreachable-requires : goal.unreachable-requires
unreachable-requires g c = may_give c.args.desk.now c.args.first c.args.number 1 0 c.requires.first refl c.in_default.ensures.fault.0

pub returns-clause-hosted : goal.returns-clause-hosted
returns-clause-hosted g c =
    let split = c.in-Ok.ensures.split in
    let first = c.split.new.pass in
    let ends : IsEnded c.args.desk.now (g.S.Seats.inputs c.args.seats.now 0) first c.match-operator.pass.0 c.match-operator.pass.1 =
    elim c.match-operator.branch [
      | in-Ok-operator w ↦ as_promised c.args.desk.now _ (g.S.Seats.inputs c.args.seats.now 0) _ first _ c.match-operator.pass w.join.result
          w.in-Ok-operator.ensures.begun (λ i. g.S.Seats.inputs (w.in-Ok-operator.ensures.seated.0 i) (w.in-Ok-operator.ensures.seated.1 i)) w.in-Ok-operator.ensures.before w.pass-is w.join.ensures
      | in-Err w ↦ as_promised c.args.desk.now _ (g.S.Seats.inputs c.args.seats.now 0) _ first _ c.match-operator.pass w.in-Err.missed refl refl refl w.pass-is w.in-Err.ensures.missed
    ] in
    let alone = none_hosted c.args.desk.now (g.S.Seats.inputs c.args.seats.now) first c.match-operator.pass.0 (c.args.number + 1) [] c.match-operator.pass.1 refl
    ((λ i. (split.given i).made) ∙ c.requires.first.nothing_seen) ((λ i. (split.given i).past) ∙ c.requires.first.none_joined) ((λ i. (split.given i).planner) ∙ c.requires.operator) ends in
    logged_hosted c.args.desk.now (g.S.Seats.inputs c.args.seats.now) c.args.first.known first.known c.match-operator.pass.0.known c.join-2.new.pass.known c.in-Ok.other.known _ (c.args.number + 1) c.match-operator.pass.1
    c.requires.operator split alone c.join-2.ensures.joined

pub returns-clause-unused : goal.returns-clause-unused
returns-clause-unused g c =
    let split = c.in-Ok.ensures.split in
    let watched = c.attend.ensures.watched in
    let none : own_of c.attend.new.pass.known.planner c.attend.new.pass.known.made ≡ [] =
    subst (λ (n : ℕ). own_of n c.attend.new.pass.known.made ≡ []) (sym watched.planner) (watched.none ∙ split.no_entries) in
    joined_unused c.match-operator.pass.0.known c.attend.new.pass.known c.join-2.new.pass.known (c.args.number + 1)
    (watched.planner ∙ next_number c.args.desk.now c.args.first c.args.number 1 0 c.requires.first refl _ split.number) none c.join-2.ensures.joined

pub returns-clause-kept : goal.returns-clause-kept
returns-clause-kept g c head logged =
    let split = c.in-Ok.ensures.split in
    let last = c.attend.new.keeper in
    let made = c.attend.new.pass.known.made in
    let watched = c.attend.ensures.kept head (kept_at_split c.args.keeper.has_failed head _ _ _ _ _ _ _ c.requires.sound (λ i. (split.start i).journal) (split.made ∙ c.requires.first.nothing_seen) logged) in (
      made,
      c.join-2.ensures.joined.others,
      subst (λ (s : DeskState). IsKept last.has_failed head (g.L.Log.text last.writer.log) (g.L.Log.kept last.writer.log) last.writer.count last.writer.check s.journal made) split.start watched,
    )
