use Rattle.std.proofs.Common.{◌≡◌, ◌↔◌, ℕ, ◌+◌, ◌<◌}
use Rattle.std.specs.Prelude.{IsTrue}
use Rattle.plan_table.specs.Route.{Fleet}
use Rattle.conflict_ledger.specs.Sight.{Sees}
use Rattle.conflict_ledger.specs.Spans.{IsIn}
use Rattle.conflict_ledger.specs.Gathering.{Gathers, HasPlace, HasHere}
use Rattle.conflict_ledger.specs.declared.places.Place.TheVariants.{Ahead}
use Rattle.conflict_ledger.proofs.gather.gather_path.Given as goal

abbrev pub invariant-loop-time : goal.invariant-loop-time
invariant-loop-time l = record {
  later : IsTrue l.came → 0 < l.time;
  came : (t : ℕ) → t + 1 ≡ l.time → IsTrue l.came ↔ IsIn l.span t;
  gathers : (fleet : Fleet) → Sees l.sight fleet → Gathers fleet l.sight.agent (λ t. IsIn l.span t × (t < l.time)) l.initial.entries.items l.entries.items;
  ahead : (fleet : Fleet) → Sees l.sight fleet → (t : ℕ) → IsIn l.span t → t + 1 < l.time → HasPlace fleet l.sight.agent t Ahead l.entries.items;
  here : (fleet : Fleet) → Sees l.sight fleet → (t : ℕ) → IsIn l.span t → t < l.time → HasHere fleet l.sight.agent t l.entries.items;
}
