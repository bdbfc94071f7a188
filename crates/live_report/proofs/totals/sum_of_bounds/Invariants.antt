use Rattle.std.proofs.Common.{◌≡◌, ◌≤◌, ◌*◌, take}
use Rattle.std.specs.Prelude.{IsSome, All, map, sum, unwrap_or}
use Rattle.desk_report.specs.declared.reports.AgentLine.{AgentLine}
use Rattle.live_report.proofs.totals.sum_of_bounds.Given as goal

abbrev pub invariant-loop-line : goal.invariant-loop-line
invariant-loop-line l = record {
  given : All IsSome (take l.line-index (map (λ (line : AgentLine). line.bound) l.lines));
  total : l.total ≡ sum (map (λ n. unwrap_or n 0) (take l.line-index (map (λ (line : AgentLine). line.bound) l.lines)));
  bound : l.total ≤ l.line-index * 4294967296;
}
