use Rattle.std.proofs.Common.{take}
use Rattle.plan_table.specs.Route.{tracks_of}
use Rattle.desk_audit.specs.Seeking.{FindsAll, IsOfMet}
use Rattle.desk_audit.proofs.adding.add_met.Given as goal

abbrev pub invariant-loop-pass : goal.invariant-loop-pass
invariant-loop-pass l = FindsAll (tracks_of l.mode l.plans.rows) l.agent l.initial.entries.items l.entries.items (IsOfMet l.time l.agent (take l.pass-index l.met))
