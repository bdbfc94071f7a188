use Rattle.std.proofs.Common.{◌≡◌, take}
use Rattle.std.specs.List.{filter}
use Rattle.desk_report.specs.Cut.{is_one}
use Rattle.live_report.proofs.cuts.visits_of.Given as goal

abbrev pub invariant-loop-visit : goal.invariant-loop-visit
invariant-loop-visit l = l.kept.items ≡ filter (λ visit. is_one l.agents visit.agent) (take l.visit-index l.visits)
