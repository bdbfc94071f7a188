use Rattle.std.proofs.Common.{◌≡◌, take}
use Rattle.live_report.specs.Changed.{AreAgentsGone}
use Rattle.live_report.proofs.changes.agents_gone.Given as goal

abbrev pub invariant-loop-line : goal.invariant-loop-line
invariant-loop-line l = AreAgentsGone l.plans.rows (take l.line-index l.lines) l.agents.items
