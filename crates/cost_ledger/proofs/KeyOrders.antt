-- The orders of rests and of visits.
use Rattle.std.proofs.Common.{◌≡◌, arith}
use Rattle.std.proofs.lemmas.Bool.Decides.{nat_tests}
use Rattle.std.specs.Cmp.{IsTotalOrder}
use Rattle.std.specs.Ordering.{ordering_then}
use Rattle.std.specs.declared.cmp.Ordering.{Ordering}
use Rattle.std.specs.declared.cmp.Ordering.TheVariants.{Equal}
use Rattle.std.proofs.lemmas.Map.Lookups.{CmpEqualImpliesEq}
use Rattle.std.proofs.lemmas.Cmp.{nat_cmp_total, on_total, then_total}
use Rattle.cost_ledger.specs.Kept.{rest_cmp, visit_cmp}
use Rattle.cost_ledger.specs.declared.rests.Rest.{Rest}
use Rattle.mapf_rules.specs.declared.visits.Visit.{Visit}

then_equal : (a b : Ordering) → ordering_then a b ≡ Equal → (a ≡ Equal) × (b ≡ Equal)
then_equal a b e = grind (arith)

pub rest_total : IsTotalOrder rest_cmp
rest_total = then_total (on_total (λ (r : Rest). r.time) nat_cmp_total) (on_total (λ (r : Rest). r.agent) nat_cmp_total)

pub rest_exact : CmpEqualImpliesEq rest_cmp
rest_exact a b e = grind (arith, nat_tests)

pub visit_total : IsTotalOrder visit_cmp
visit_total = then_total (on_total (λ (v : Visit). v.agent) nat_cmp_total) (then_total (on_total (λ (v : Visit). v.time) nat_cmp_total) (then_total (on_total (λ (v : Visit). v.cell.y) nat_cmp_total) (on_total (λ (v : Visit). v.cell.x) nat_cmp_total)))

pub visit_exact : CmpEqualImpliesEq visit_cmp
visit_exact a b e = grind (arith, nat_tests)
