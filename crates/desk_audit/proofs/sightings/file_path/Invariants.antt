use Rattle.std.proofs.Common.{◌<◌}
use Rattle.desk_audit.specs.Index.{AddsPlaces}
use Rattle.desk_audit.proofs.sightings.file_path.Given as goal

abbrev pub invariant-loop-time : goal.invariant-loop-time
invariant-loop-time l = AddsPlaces l.initial.moments l.moments l.initial.passes l.passes l.rests l.agent l.plan l.first_rest l.share (λ time. time < l.time)
