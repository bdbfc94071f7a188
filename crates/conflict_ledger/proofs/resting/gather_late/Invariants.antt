use Rattle.std.proofs.Common.{◌≡◌, ℕ, ◌<◌, ◌≤◌, get_or}
use Rattle.plan_table.specs.Route.{Fleet, last_of}
use Rattle.where_index.specs.declared.passings.Passing.{Passing}
use Rattle.conflict_ledger.specs.Sight.{Sees}
use Rattle.conflict_ledger.specs.Gathering.{Gathers}
use Rattle.conflict_ledger.specs.Late.{HasLate}
use Rattle.conflict_ledger.proofs.resting.gather_late.Given as goal

abbrev pub invariant-loop-passing : goal.invariant-loop-passing
invariant-loop-passing l = record {
  gathers : (fleet : Fleet) → Sees l.sight fleet → l.last ≡ last_of fleet l.sight.agent → Gathers fleet l.sight.agent (λ t. l.last ≤ t) l.initial.entries.items l.entries.items;
  has : (fleet : Fleet) → Sees l.sight fleet → l.last ≡ last_of fleet l.sight.agent → (k : ℕ) (d : Passing) → k < l.passing-index → HasLate fleet (get_or l.passing-items k d).time l.sight.agent (get_or l.passing-items k d).agent l.rest l.entries.items;
}
