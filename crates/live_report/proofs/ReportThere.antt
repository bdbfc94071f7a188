-- There is a report of a map, a mode and a table whose entries, visits, costs and bounds are known.
use Rattle.std.proofs.Common.{List}
use Rattle.std.specs.Prelude.{All, Option, map, ℕ}
use Rattle.grid_cells.specs.Grid.{Chart}
use Rattle.plan_table.specs.Route.{tracks_of}
use Rattle.plan_table.specs.declared.plans.Row.{Row}
use Rattle.plan_table.specs.declared.tracks.Mode.{Mode}
use Rattle.mapf_rules.specs.ConflictList.{AreConflicts}
use Rattle.mapf_rules.specs.Costs.{AreCosts}
use Rattle.mapf_rules.specs.Visits.{AreVisits}
use Rattle.mapf_rules.specs.declared.entries.Conflict.{Conflict}
use Rattle.mapf_rules.specs.declared.visits.Visit.{Visit}
use Rattle.desk_report.specs.Report.{IsReportOf}
use Rattle.desk_report.specs.declared.reports.AgentLine.{AgentLine}
use Rattle.desk_report.specs.declared.reports.Report.{Report}
use Rattle.live_report.proofs.Deciding.{sum_given, greatest_given}
use Rattle.live_report.proofs.Verdicts.{IsReady, lines_of}

pub report_there : (grid : Chart) (mode : Mode) (rows : List (ℕ × Row)) (entries : List Conflict) (visits : List Visit) (costs : List (Option ℕ)) → AreConflicts (tracks_of mode rows) entries → AreVisits grid rows visits → AreCosts rows costs → All (IsReady grid) rows
    → (report : Report) × IsReportOf grid mode rows report
report_there grid mode rows entries visits costs conflicts blocked priced ready =
    let lines = lines_of grid rows costs priced ready in
    let sum = sum_given costs in
    let makespan = greatest_given costs in
    let bounds = sum_given (map (λ (line : AgentLine). line.bound) lines.0) in
    let gaps = sum_given (map (λ (line : AgentLine). line.gap) lines.0) in (
      record { conflicts = entries; visits = visits; lines = lines.0; sum = sum.0; makespan = makespan.0; bounds = bounds.0; total_gap = gaps.0 },
      record { conflicts = conflicts; visits = blocked; lines = lines.1; sum = (costs, priced, sum.1); makespan = (costs, priced, makespan.1); bounds = bounds.1; total_gap = gaps.1 },
    )
