use Rattle.std.proofs.Common.{ℕ, ◌<◌, ◌≤◌}
use Rattle.std.specs.List.{slice_index_or}
use Rattle.mapf_rules.specs.declared.visits.Visit.{Visit}
use Rattle.live_report.proofs.visitors.first_from.Given as goal

abbrev pub invariant-loop-place : goal.invariant-loop-place
invariant-loop-place l = (k : ℕ) (d : Visit) → l.from ≤ k → k < l.place → (slice_index_or l.visits k d).agent < l.agent
