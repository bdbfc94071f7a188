use Rattle.std.proofs.Common.{take}
use Rattle.plan_table.specs.Route.{tracks_of}
use Rattle.desk_audit.specs.Seeking.{FindsAll, IsOfPassed}
use Rattle.desk_audit.proofs.adding.add_passed.Given as goal

abbrev pub invariant-loop-pass : goal.invariant-loop-pass
invariant-loop-pass l = FindsAll (tracks_of l.mode l.plans.rows) l.agent l.initial.entries.items l.entries.items (IsOfPassed (tracks_of l.mode l.plans.rows) l.after l.agent (take l.pass-index l.passes))
