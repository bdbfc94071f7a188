use Rattle.std.proofs.Common.{◌≡◌, ◌-◌, length}
use Rattle.path_files.specs.Told.{with_places}
use Rattle.path_files.proofs.told.add_places.Given as goal

abbrev pub invariant-loop-told : goal.invariant-loop-told
invariant-loop-told l = with_places l.told.items l.count ≡ with_places l.fn.told.items l.count

abbrev pub decreases-loop-told : goal.decreases-loop-told
decreases-loop-told l = l.count - length l.told.items
