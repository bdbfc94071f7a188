use Rattle.std.proofs.Common.{◌≡◌, ℕ, ◌<◌, Some}
use Rattle.std.specs.List.{slice_get}
use Rattle.scene_edits.specs.declared.changes.Thing.{Thing}
use Rattle.desk_commits.specs.Entries.{things_of}
use Rattle.desk_commits.specs.Stale.{IsFreshSince}
use Rattle.desk_commits.proofs.stale.first_stale.Given as goal

abbrev pub invariant-loop-rank : goal.invariant-loop-rank
invariant-loop-rank l = (earlier : ℕ) (other : Thing) → earlier < l.rank → slice_get (things_of l.commit) earlier ≡ Some other → IsFreshSince l.journal l.commit.base other
