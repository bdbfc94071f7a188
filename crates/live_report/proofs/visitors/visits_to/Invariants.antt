use Rattle.std.proofs.Common.{◌≡◌, map, take}
use Rattle.live_report.specs.Fleet.{visit_to}
use Rattle.live_report.proofs.visitors.visits_to.Given as goal

abbrev pub invariant-loop-passing : goal.invariant-loop-passing
invariant-loop-passing l = l.visits.items ≡ map (visit_to l.cell) (take l.passing-index l.passings)
