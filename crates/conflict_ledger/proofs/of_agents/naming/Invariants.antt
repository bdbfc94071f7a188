use Rattle.std.proofs.Common.{take}
use Rattle.plan_table.specs.Route.{tracks_of}
use Rattle.where_index.specs.Index.{StandsFor}
use Rattle.conflict_ledger.specs.Named.{HasNamedOnes}
use Rattle.conflict_ledger.proofs.of_agents.naming.Given as goal

abbrev pub invariant-loop-agent : goal.invariant-loop-agent
invariant-loop-agent l = StandsFor l.index (tracks_of l.mode l.plans.rows) → HasNamedOnes (tracks_of l.mode l.plans.rows) (take l.agent-index l.agents) l.entries.items
