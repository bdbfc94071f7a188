use Rattle.std.proofs.Common.{◌≡◌, [], take, drop}
use Rattle.mapf_desk.specs.Names.{first_repeated}
use Rattle.mapf_desk.proofs.opening.named_twice.Given as goal

abbrev pub invariant-loop-place : goal.invariant-loop-place
invariant-loop-place l = first_repeated (take l.place l.names) (drop l.place l.names) ≡ first_repeated [] l.names
