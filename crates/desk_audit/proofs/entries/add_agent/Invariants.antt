use Rattle.std.proofs.Common.{◌≡◌, ◌<◌}
use Rattle.plan_table.specs.Route.{tracks_of}
use Rattle.mapf_rules.specs.Naming.{time_of, first_agent}
use Rattle.desk_audit.specs.Seeking.{FindsAll}
use Rattle.desk_audit.proofs.entries.add_agent.Given as goal

abbrev pub invariant-loop-time : goal.invariant-loop-time
invariant-loop-time l = FindsAll (tracks_of l.mode l.plans.rows) l.agent l.initial.entries.items l.entries.items (λ entry. (time_of entry < l.time) × (first_agent entry ≡ l.agent))
