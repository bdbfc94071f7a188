use Rattle.std.proofs.Common.{rules, ◌≡◌, ◌+◌, arith, refl}
use Rattle.shared_runs.specs.Hosts.{IsEnded}
use Rattle.shared_runs.specs.Logged.{IsKeptIn, passes_of}
use Rattle.desk_log.specs.Keeping.{IsLogged}
use Rattle.shared_runs.proofs.KeptLog.{kept_in, kept_on}
use Rattle.shared_runs.proofs.Joining.{none_hosted, one_more_hosted}
use Rattle.shared_runs.proofs.Scribing.{more_by, nobody_hosted, still_unused_if}
use Rattle.shared_runs.proofs.Sitting.{as_promised}
use Rattle.shared_runs.proofs.Numbering.{may_give, next_number, may_still_split}
use Rattle.shared_runs.proofs.hosts.threads.+host_all.Goals as goal
use Rattle.shared_runs.proofs.hosts.threads.+host_all.Goals.{in-Ok-sitting, in-Err}

pub returns-in-None-clause-hosted : goal.returns-in-None-clause-hosted
returns-in-None-clause-hosted g t c =
    none_hosted c.args.desk.now (g.S.Seats.inputs c.args.seats.now) c.args.first c.operate-pass.result.0 _ c.args.outcomes.now _ c.in_default.ensures.cases c.requires.first.nothing_seen c.requires.first.none_joined c.requires.operator c.operate-pass.ensures

pub returns-in-Some-log-clause-hosted : goal.returns-in-Some-log-clause-hosted
returns-in-Some-log-clause-hosted g t c =
    nobody_hosted c.args.desk.now (g.S.Seats.inputs c.args.seats.now) _ _ _ c.args.outcomes.now _ c.in_default.ensures.cases c.operate_logged-pass.ensures.hosted

pub unreachable-requires : goal.unreachable-requires
unreachable-requires g t c =
    may_give _ _ _ _ _ c.requires.first (more_by _ _ (passes_of c.args.log) c.in-Some.ensures.cases.1) c.in_default-split.ensures.fault.0

pub host_all-first-requires-clause-first : goal.host_all-first-requires-clause-first
host_all-first-requires-clause-first g t c κs within =
    may_still_split c.args.desk.now _ _ _ _ c.requires.first (more_by _ _ (passes_of c.args.log) c.in-Some.ensures.cases.1) c.split.new.pass _ c.in-Ok.ensures.split (search rules)

pub returns-clause-hosted : goal.returns-clause-hosted
returns-clause-hosted g t c =
    let split = c.in-Ok.ensures.split in
    let number : c.in-Ok.pass.known.planner ≡ c.args.number + 1 = next_number _ _ _ _ _ c.requires.first (more_by _ _ (passes_of c.args.log) c.in-Some.ensures.cases.1) _ split.number in
    let ends : IsEnded c.args.desk.now (g.S.Seats.inputs c.args.seats.now (c.args.number + 1)) c.in-Ok.pass c.match-sitting.pass.0 c.match-sitting.pass.1 =
    elim c.match-sitting.branch [
      | in-Ok-sitting w ↦ as_promised c.args.desk.now _ (g.S.Seats.inputs c.args.seats.now (c.args.number + 1)) _ c.in-Ok.pass _ c.match-sitting.pass w.join.result
          w.in-Ok-sitting.ensures.begun (λ i. g.S.Seats.inputs (w.in-Ok-sitting.ensures.seated.0 i) (w.in-Ok-sitting.ensures.seated.1 i)) w.in-Ok-sitting.ensures.before w.pass-is w.join.ensures
      | in-Err w ↦ as_promised c.args.desk.now _ (g.S.Seats.inputs c.args.seats.now (c.args.number + 1)) _ c.in-Ok.pass _ c.match-sitting.pass w.in-Err.missed refl refl refl w.pass-is w.in-Err.ensures.missed
    ] in
    one_more_hosted c.args.desk.now (g.S.Seats.inputs c.args.seats.now) c.args.first.known c.split.new.pass.known c.host_all-first.result.0.known c.join-2.new.pass.known c.in-Ok.pass c.match-sitting.pass.0 (c.args.number + 1) c.match-sitting.pass.1 c.host_all-first.result.1 c.host_all-first.new.outcomes
    c.requires.first.nothing_seen c.requires.operator number split c.host_all-first.ensures.hosted ends c.join-2.ensures.joined

pub returns-clause-unused : goal.returns-clause-unused
returns-clause-unused g t c =
    still_unused_if c.args.log c.host_all-first.result.0.known c.match-sitting.pass.0.known c.join-2.new.pass.known _ _ (omega (arith, c.in-Some.ensures.cases.1)) c.join-2.ensures.joined c.host_all-first.ensures.unused

pub returns-clause-kept : goal.returns-clause-kept
returns-clause-kept g t c =
    let joined = c.join-2.ensures.joined in
    kept_on c.args.log c.host_all-first.result.2
    (λ head keeper start. IsLogged head (g.L.Log.text keeper.writer.log) (g.L.Log.kept keeper.writer.log) keeper.writer.count keeper.writer.check start)
    (λ head last start made. IsKeptIn last.has_failed head (g.L.Log.text last.writer.log) (g.L.Log.kept last.writer.log) last.writer.count last.writer.check start made)
    c.split.new.pass.known.start.journal c.args.first.known.start.journal c.host_all-first.result.0.known.made c.join-2.new.pass.known.made (λ i. (c.in-Ok.ensures.split.given i).start.journal)
    (λ head last. kept_in last.has_failed head (g.L.Log.text last.writer.log) (g.L.Log.kept last.writer.log) last.writer.count last.writer.check c.args.first.known.start.journal c.host_all-first.result.0.known.made c.join-2.new.pass.known.made joined.seen)
    c.host_all-first.ensures.kept
