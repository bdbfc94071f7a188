use Rattle.where_index.specs.Shown.{IsPassing}
use Rattle.where_index.proofs.Gathered.{Gathers}
use Rattle.where_index.proofs.gathering.gather_passings.Given as goal

abbrev pub invariant-loop-spot : goal.invariant-loop-spot
invariant-loop-spot l = Gathers IsPassing l.fn.found.items l.fn.spots l.spot-iterator l.found.items
