use Rattle.std.proofs.Common.{ℕ, List}
use Rattle.shared_runs.specs.Logged.{HasWatched, IsKept}
use Rattle.desk_shared.specs.Passes.{Owns}
use Rattle.shared_runs.proofs.hosts.scribes.attend.Given as goal

abbrev pub invariant-loop : goal.invariant-loop
invariant-loop g l =
    Owns l.fn.desk l.pass × HasWatched l.fn.pass.known l.pass.known
    × ((head : List ℕ) → IsKept l.fn.keeper.has_failed head (g.L.Log.text l.fn.keeper.writer.log) (g.L.Log.kept l.fn.keeper.writer.log) l.fn.keeper.writer.count l.fn.keeper.writer.check l.fn.pass.known.start.journal l.fn.pass.known.made
    → IsKept l.keeper.has_failed head (g.L.Log.text l.keeper.writer.log) (g.L.Log.kept l.keeper.writer.log) l.keeper.writer.count l.keeper.writer.check l.fn.pass.known.start.journal l.pass.known.made)
