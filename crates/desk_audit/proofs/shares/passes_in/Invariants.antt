use Rattle.std.proofs.Common.{◌≡◌, ◌≢◌, ℕ, ◌<◌, Some, Contains}
use Rattle.std.specs.List.{slice_get}
use Rattle.desk_audit.specs.Filing.{Files}
use Rattle.desk_audit.specs.declared.sightings.Sightings.{Sightings}
use Rattle.desk_audit.specs.declared.tables.Pass.{Pass}
use Rattle.desk_audit.proofs.shares.passes_in.Given as goal

abbrev pub invariant-loop-share : goal.invariant-loop-share
invariant-loop-share l = (k : ℕ) (share : Sightings) (pass : Pass) → k < l.share-index → slice_get l.index k ≡ Some share → Files share.passes l.cell 0 pass → pass.agent ≢ l.agent → Contains l.found.items pass
