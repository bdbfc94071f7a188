-- Ledgers of costs that stand for maps which are closed in the same cells.
use Rattle.std.proofs.Common.{ℕ, List, arith}
use Rattle.std.proofs.lemmas.Bool.Decides.{nat_tests}
use Rattle.std.proofs.lemmas.Grind.{common_steps}
use Rattle.std.proofs.lemmas.Option.{gets}
use mathlib.Core.Logic.{◌↔◌}
use Rattle.grid_cells.specs.Cell.{Point}
use Rattle.grid_cells.specs.Grid.{Chart, IsClosed}
use Rattle.plan_table.specs.declared.plans.Row.{Row}
use Rattle.cost_ledger.specs.Ledger.{Ledger, StandsForMap}
use Rattle.mapf_rules.specs.Visits.{IsVisit}
use Rattle.mapf_rules.specs.declared.visits.Visit.{Visit}

visit_there : (one other : Chart) (rows : List (ℕ × Row)) (visit : Visit) → ((cell : Point) → IsClosed one cell → IsClosed other cell) → IsVisit one rows visit → IsVisit other rows visit
visit_there one other rows visit same is = grind (arith, nat_tests, common_steps, gets)

pub stands_there : (ledger : Ledger) (one other : Chart) → ((cell : Point) → IsClosed one cell ↔ IsClosed other cell) → StandsForMap ledger one → StandsForMap ledger other
stands_there ledger one other same stands = record {
  ascending = stands.ascending;
  exact = λ visit. (
    (λ h. visit_there one other ledger.rows visit (λ cell. (same cell).0) ((stands.exact visit).0 h)),
    (λ is. (stands.exact visit).1 (visit_there other one ledger.rows visit (λ cell. (same cell).1) is)),
  );
}
