use Rattle.std.proofs.Common.{◌≡◌, ◌≤◌, ℕ, All, drop, length}
use Rattle.std.specs.BTreeMap.{keys}
use Rattle.plan_table.specs.Plans.{row_of}
use Rattle.scene_edits.specs.Kept.{past_known, present, before_changes}
use Rattle.scene_edits.specs.Named.{IsNamed}
use Rattle.scene_edits.proofs.named_agents.formers.Given as goal

abbrev pub invariant-loop-left : goal.invariant-loop-left
invariant-loop-left l = record {
  within : l.left ≤ length l.changes;
  known : (agent : ℕ) → past_known l.rows l.plans.rows agent ≡ before_changes (drop l.left l.changes) agent (present (row_of l.plans.rows agent));
  named : All (IsNamed (drop l.left l.changes)) (keys l.rows);
}

abbrev pub decreases-loop-left : goal.decreases-loop-left
decreases-loop-left l = l.left
