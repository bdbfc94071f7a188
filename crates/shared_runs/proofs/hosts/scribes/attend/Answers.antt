use Rattle.std.proofs.Common.{ℕ, List, subst}
use Rattle.desk_commits.specs.State.{DeskState}
use Rattle.shared_runs.specs.Logged.{IsKept}
use Rattle.shared_runs.proofs.Scribing.{watched_none, watched_on}
use Rattle.shared_runs.proofs.hosts.scribes.attend.Goals as goal

pub loop-init : goal.loop-init
loop-init g c = (c.requires, watched_none c.args.pass.now.known, λ head had. had)

pub loop-preserved : goal.loop-preserved
loop-preserved g c =
    let old = c.loop.keeper in
    let new = c.keep_rest.new.keeper in
    let before = c.loop.pass.known.made in
    let made = c.keep_rest.new.pass.known.made in
    let on = λ (head : List ℕ). subst (λ (s : DeskState). IsKept old.has_failed head (g.L.Log.text old.writer.log) (g.L.Log.kept old.writer.log) old.writer.count old.writer.check s.journal before
    → IsKept new.has_failed head (g.L.Log.text new.writer.log) (g.L.Log.kept new.writer.log) new.writer.count new.writer.check s.journal made)
    c.loop.invariant.1.start (c.keep_rest.ensures.kept head) in
    (c.keep_rest.ensures.owned, watched_on _ _ _ c.loop.invariant.1 c.keep_rest.ensures.watched, λ head had. on head (c.loop.invariant.2 head had))
