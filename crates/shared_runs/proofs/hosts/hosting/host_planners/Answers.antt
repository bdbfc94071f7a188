use Rattle.std.proofs.Common.{◌≡◌, ℕ, ◌+◌, ◌∙◌, IfSome, arith, length, subst}
use Rattle.shared_runs.proofs.Joining.{hosts}
use Rattle.shared_runs.proofs.Scribing.{of_planners}
use Rattle.shared_runs.proofs.KeptLog.{at_end, kept_in, kept_to_end}
use Rattle.desk_log.specs.Keeping.{IsLogged}
use Rattle.shared_runs.specs.Logged.{IsJoinedUnused, IsKept, IsKeptAtEnd, IsKeptIn}
use Rattle.shared_runs.proofs.hosts.hosting.host_planners.Goals as goal

pub returns-clause-hosted : goal.returns-clause-hosted
returns-clause-hosted g c =
    let told : length c.host_threads-first.result.2.items ≡ c.args.planners = omega (arith, c.host_threads-first.ensures.as_many, c.in-Ok.ensures.len, c.in-Ok.outcomes.ok) in
    let last = c.host_threads-first.result.0.known in
    let many : length c.in-Ok.outcomes.items + 1 ≡ c.args.planners + 1 = omega (arith, c.in-Ok.ensures.len, c.in-Ok.outcomes.ok) in
    let unused = subst (λ (n : ℕ). IfSome c.args.log (λ _. IsJoinedUnused n last.past)) many c.host_threads-first.ensures.unused in
    hosts c.in-Ok-share.shared (g.S.Seats.inputs c.args.seats.now) c.args.desk c.args.planners _ c.in-Ok-share.first.known last c.in-Ok-close.desk _
    (λ found on. of_planners c.args.log c.args.planners (c.args.planners + 1 + c.passes_of-passes.result) last found (omega (arith, c.passes_of-passes.ensures.is)) (c.host_threads-first.ensures.hosted.planners ∙ c.in-Ok-share.ensures.first.shared) on unused)
    told c.in-Ok-share.ensures.first c.host_threads-first.ensures.hosted c.in-Ok-close.ensures c.compare-same.ensures.same c.compare-same.ensures.compared

pub returns-clause-kept : goal.returns-clause-kept
returns-clause-kept g c =
    kept_to_end c.args.log c.host_threads-first.result.3 c.keep_last-log.result
    (λ head keeper journal. IsLogged head (g.L.Log.text keeper.writer.log) (g.L.Log.kept keeper.writer.log) keeper.writer.count keeper.writer.check journal)
    (λ head keeper start made. IsKeptIn keeper.has_failed head (g.L.Log.text keeper.writer.log) (g.L.Log.kept keeper.writer.log) keeper.writer.count keeper.writer.check start made)
    (λ head keeper start made. IsKept keeper.has_failed head (g.L.Log.text keeper.writer.log) (g.L.Log.kept keeper.writer.log) keeper.writer.count keeper.writer.check start made)
    (λ head keeper journal. IsKeptAtEnd keeper.has_failed head (g.L.Log.text keeper.writer.log) (g.L.Log.kept keeper.writer.log) keeper.writer.count keeper.writer.check journal)
    c.args.desk c.in-Ok-share.first.known.start c.host_threads-first.result.0.known c.in-Ok-close.desk c.compare-same.new.desk
    c.in-Ok-share.ensures.first.start c.host_threads-first.ensures.hosted.start c.in-Ok-close.ensures c.compare-same.ensures.same c.keep_last-log.ensures.logged
    (λ head keeper made found. kept_in keeper.has_failed head (g.L.Log.text keeper.writer.log) (g.L.Log.kept keeper.writer.log) keeper.writer.count keeper.writer.check _ made found)
    (λ head keeper made. at_end keeper.has_failed head (g.L.Log.text keeper.writer.log) (g.L.Log.kept keeper.writer.log) keeper.writer.count keeper.writer.check _ made _)
    c.host_threads-first.ensures.kept c.keep_last-log.ensures.kept
