use Rattle.std.proofs.Common.{◌≡◌, ℕ, ◌*◌, ◌≤◌, Option}
use Rattle.where_index.specs.declared.trails.Hop.{Hop}
use Rattle.where_index.specs.Records.{leg_at, legs_apart}
use Rattle.where_index.specs.Changes.{set_row, mixed}
use Rattle.where_index.specs.Traffic.{HasTraffic}
use Rattle.where_index.proofs.leg_changes.change_legs.Given as goal

abbrev pub invariant-loop-time : goal.invariant-loop-time
invariant-loop-time l = record {
  set : (f : ℕ → ℕ → Option Hop) → HasTraffic l.fn.traffic f → ((t : ℕ) → f l.fn.agent t ≡ leg_at l.old t) → HasTraffic l.traffic (set_row f l.fn.agent (mixed (leg_at l.old) (leg_at l.new) l.time));
  tails : l.traffic.tails ≡ l.fn.traffic.tails;
  count : l.count ≡ legs_apart l.old l.new l.time;
  few : l.count ≤ 4 * l.time;
}
