-- What a check comes to, and the costs that a text of paths states otherwise (this project's choice).
use Rattle.std.specs.Prelude.{ℕ, Bool, ◌==◌, ◌&&◌, Option, Some, None, is_none, if◌then◌else◌}
use Rattle.path_files.specs.declared.costs.Costs.{Costs}
use Rattle.solver_check.specs.CheckTexts.{says_yes}
use Rattle.solver_check.specs.declared.checks.costs.Checked.{Checked}
use Rattle.solver_check.specs.declared.checks.costs.CostApart.{CostApart}
use Rattle.solver_check.specs.declared.checks.costs.CostsApart.{CostsApart}
use Rattle.solver_check.specs.declared.checks.costs.Totals.{Totals}
use Rattle.solver_check.specs.declared.checks.judging.Verdict.{Verdict}
use Rattle.solver_check.specs.declared.checks.judging.Verdict.TheVariants.{NoPaths, Repeated, Wrong, Judged}

-- the costs of a verdict's report
abbrev pub totals_of : Verdict → Option Totals
totals_of NoPaths = None
totals_of (Repeated line) = None
totals_of (Wrong wrongs differences) = None
totals_of (Judged report differences solved) = Some (record { sum = report.sum; makespan = report.makespan })

abbrev pub checked_of : Verdict → Checked
checked_of verdict = record { solved = says_yes verdict; totals = totals_of verdict }

-- a cost that is stated, where it isn't the due one
abbrev pub cost_apart : (stated due : Option ℕ) → Option CostApart
cost_apart None due = None
cost_apart (Some stated) None = Some (record { stated = stated; due = None })
cost_apart (Some stated) (Some due) = if due == stated then None else Some (record { stated = stated; due = Some due })

-- `soc` beside the sum of costs and `makespan` beside the makespan of a report, where there is one
abbrev pub costs_apart : Costs → Option Totals → CostsApart
costs_apart stated None = record { soc = None; makespan = None }
costs_apart stated (Some totals) = record { soc = cost_apart stated.soc totals.sum; makespan = cost_apart stated.makespan totals.makespan }

-- no cost differs
abbrev pub is_nothing_apart : CostsApart → Bool
is_nothing_apart apart = is_none apart.soc && is_none apart.makespan
