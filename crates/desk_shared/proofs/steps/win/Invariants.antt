use Rattle.std.proofs.Common.{◌≡◌}
use Rattle.desk_shared.specs.Turns.{IsSameSeat}
use Rattle.desk_shared.proofs.steps.win.Given as goal

abbrev pub invariant-loop : goal.invariant-loop
invariant-loop g l = IsSameSeat l.initial.place l.place × (l.place.me ≡ l.initial.place.me)
