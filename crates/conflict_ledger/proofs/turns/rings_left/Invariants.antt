use Rattle.std.proofs.Common.{◌≡◌, ℕ, ◌<◌, Contains, get_or}
use Rattle.std.specs.Option.{option_map}
use Rattle.plan_table.specs.Route.{Fleet, route_of}
use Rattle.mapf_rules.specs.Naming.{time_of}
use Rattle.conflict_ledger.specs.Sight.{Sees}
use Rattle.conflict_ledger.specs.Turns.{IsLeft, IsToldAt, MayTurn}
use Rattle.mapf_rules.specs.declared.entries.Conflict.{Conflict}
use Rattle.conflict_ledger.proofs.turns.rings_left.Given as goal

abbrev pub invariant-loop-entry : goal.invariant-loop-entry
invariant-loop-entry l = record {
  only : (fleet : Fleet) → Sees l.view fleet → (e : Conflict) → Contains l.rings.items e → IsLeft fleet (option_map route_of l.with.shown) e × IsToldAt l.turn l.entries l.with.agent (time_of e);
  has : (fleet other : Fleet) → Sees l.view fleet → Sees l.with other → (e : Conflict) → IsLeft fleet (option_map route_of l.with.shown) e → (k : ℕ) (d : Conflict) → k < l.entry-index → time_of (get_or l.entries k d) ≡ time_of e → MayTurn l.turn (get_or l.entries k d) l.with.agent → Contains l.rings.items e;
}
