-- A verdict whose cells have their coordinates exchanged: as a text has them whose cells are row and column (this project's choice).
use Rattle.std.specs.Prelude.{map}
use Rattle.grid_cells.specs.Cell.{Point, point}
use Rattle.mapf_rules.specs.declared.entries.Conflict.{Conflict}
use Rattle.mapf_rules.specs.declared.entries.Conflict.TheVariants.{Vertex, Parked, Edge, Following, Swapping, Cycle}
use Rattle.mapf_rules.specs.declared.visits.Visit.{Visit}
use Rattle.desk_report.specs.declared.reports.Report.{Report}
use Rattle.solver_check.specs.declared.checks.differences.Difference.{Difference}
use Rattle.solver_check.specs.declared.checks.differences.Difference.TheVariants.{Paths, Agents, Starts, Goals, Start, Goal}
use Rattle.solver_check.specs.declared.checks.judging.Verdict.{Verdict}
use Rattle.solver_check.specs.declared.checks.judging.Verdict.TheVariants as verdict
use Rattle.solver_check.specs.declared.checks.wrongs.Wrong.{Wrong}
use Rattle.solver_check.specs.declared.checks.wrongs.Wrong.TheVariants.{TooLong, OutOfMap, NotFromStart, NotAStep}

abbrev pub turned_cell : Point → Point
turned_cell cell = point cell.y cell.x

abbrev pub turned_entry : Conflict → Conflict
turned_entry (Vertex time first second cell) = Vertex time first second (turned_cell cell)
turned_entry (Parked time first second cell) = Parked time first second (turned_cell cell)
turned_entry (Edge time first second cell next) = Edge time first second (turned_cell cell) (turned_cell next)
turned_entry (Following time follower leader cell) = Following time follower leader (turned_cell cell)
turned_entry (Swapping time first second cell other) = Swapping time first second (turned_cell cell) (turned_cell other)
turned_entry (Cycle time ring) = Cycle time ring

abbrev pub turned_visit : Visit → Visit
turned_visit visit = record visit { cell = turned_cell visit.cell }

abbrev pub turned_wrong : Wrong → Wrong
turned_wrong (TooLong agent time cell) = TooLong agent time (turned_cell cell)
turned_wrong (OutOfMap agent time cell) = OutOfMap agent time (turned_cell cell)
turned_wrong (NotFromStart agent start cell) = NotFromStart agent (turned_cell start) (turned_cell cell)
turned_wrong (NotAStep agent time before cell) = NotAStep agent time (turned_cell before) (turned_cell cell)

abbrev pub turned_difference : Difference → Difference
turned_difference (Paths paths agents) = Paths paths agents
turned_difference (Agents listed agents) = Agents listed agents
turned_difference (Starts listed paths) = Starts listed paths
turned_difference (Goals listed paths) = Goals listed paths
turned_difference (Start agent listed due) = Start agent (turned_cell listed) (turned_cell due)
turned_difference (Goal agent listed due) = Goal agent (turned_cell listed) (turned_cell due)

abbrev pub turned_report : Report → Report
turned_report report = record report { conflicts = map turned_entry report.conflicts; visits = map turned_visit report.visits }

abbrev pub turned : Verdict → Verdict
turned verdict.NoPaths = verdict.NoPaths
turned (verdict.Repeated line) = verdict.Repeated line
turned (verdict.Wrong wrongs differences) = verdict.Wrong (map turned_wrong wrongs) (map turned_difference differences)
turned (verdict.Judged report differences solved) = verdict.Judged (turned_report report) (map turned_difference differences) solved
