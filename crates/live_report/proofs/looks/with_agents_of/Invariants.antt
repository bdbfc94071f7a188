use Rattle.std.proofs.Common.{ℕ, take, Contains}
use Rattle.live_report.specs.Looks.{HasAgentsOf}
use Rattle.live_report.proofs.looks.with_agents_of.Given as goal

abbrev pub invariant-loop-line : goal.invariant-loop-line
invariant-loop-line l = record {
  agents : (agent : ℕ) → Contains l.initial.agents.items agent → Contains l.agents.items agent;
  lines : HasAgentsOf (take l.line-index l.line-items) l.agents.items;
}
