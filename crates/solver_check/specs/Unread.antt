-- Texts of paths that aren't read to their end, and have a verdict: the solver found no paths, or a list stands there twice (this
-- project's choice).
use Rattle.std.specs.Prelude.{Option, Some, None}
use Rattle.path_files.specs.declared.faults.PathsFault.{PathsFault}
use Rattle.path_files.specs.declared.faults.PathsFault.TheVariants as faults
use Rattle.solver_check.specs.declared.checks.faults.CheckFault.{CheckFault}
use Rattle.solver_check.specs.declared.checks.faults.CheckFault.TheVariants as check
use Rattle.solver_check.specs.declared.checks.judging.Verdict.{Verdict}
use Rattle.solver_check.specs.declared.checks.judging.Verdict.TheVariants.{NoPaths, Repeated}

-- the verdict on a text of that fault
abbrev pub verdict_unread : PathsFault → Option Verdict
verdict_unread faults.NoPaths = Some NoPaths
verdict_unread (faults.RepeatedList line) = Some (Repeated line)
verdict_unread (faults.NoForm line) = None
verdict_unread (faults.BadHeader line) = None
verdict_unread faults.MissingSolution = None
verdict_unread (faults.BadTime line) = None
verdict_unread (faults.BadAgent line) = None
verdict_unread (faults.BadPath line) = None
verdict_unread (faults.BadCell line cell) = None
verdict_unread (faults.NoCells line) = None
verdict_unread (faults.CellCount line) = None
verdict_unread (faults.TooManyAgents line) = None
verdict_unread (faults.BadMove line time) = None
verdict_unread (faults.BadJson line column) = None
verdict_unread faults.TurningRobots = None
verdict_unread faults.OtherModel = None
verdict_unread (faults.BadMember member) = None
verdict_unread (faults.BadStart agent) = None
verdict_unread (faults.BadAction agent time) = None
verdict_unread faults.TooManyPaths = None
verdict_unread faults.OpenQuote = None
verdict_unread faults.NoStarts = None
verdict_unread (faults.MissingAgent agent) = None
verdict_unread (faults.BadPlace line time) = None
verdict_unread (faults.MissingPlace time) = None
verdict_unread faults.MissingSchedule = None
verdict_unread faults.OutOfMemory = None

-- the verdict by a fault of a check
abbrev pub verdict_by : CheckFault → Option Verdict
verdict_by (check.Paths why) = verdict_unread why
verdict_by (check.Run why) = None
verdict_by (check.Agent agent why) = None
verdict_by (check.Path agent time why) = None
verdict_by check.WriteFailed = None
verdict_by check.OutOfMemory = None
