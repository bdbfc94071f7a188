-- How many of what a report lists there are (this project's choice).
use Rattle.std.specs.Prelude.{true, length}
use Rattle.desk_report.specs.declared.reports.Report.{Report}
use Rattle.solver_check.specs.CheckTexts.{count_finished, count_named, no_kinds}
use Rattle.solver_check.specs.declared.checks.json.counts.Counts.{Counts}
use Rattle.solver_check.specs.declared.checks.judging.Verdict.{Verdict}
use Rattle.solver_check.specs.declared.checks.judging.Verdict.TheVariants.{NoPaths, Repeated, Wrong, Judged}

-- of each kind that can be asked about: `vertex` counts Vertex and Parked entries
abbrev pub counts_of : Report → Counts
counts_of report = record {
  agents = length report.lines;
  finished = count_finished report.lines;
  conflicts = length report.conflicts;
  vertex = count_named (record no_kinds { vertex = true }) report.conflicts;
  edge = count_named (record no_kinds { edge = true }) report.conflicts;
  follow = count_named (record no_kinds { follow = true }) report.conflicts;
  swap = count_named (record no_kinds { swap = true }) report.conflicts;
  cycle = count_named (record no_kinds { cycle = true }) report.conflicts;
  blocked = length report.visits;
}

abbrev pub no_counts : Counts
no_counts = record { agents = 0; finished = 0; conflicts = 0; vertex = 0; edge = 0; follow = 0; swap = 0; cycle = 0; blocked = 0 }

-- of a verdict's report; none of anything where it has none
abbrev pub counts_in : Verdict → Counts
counts_in NoPaths = no_counts
counts_in (Repeated line) = no_counts
counts_in (Wrong wrongs differences) = no_counts
counts_in (Judged report differences solved) = counts_of report
