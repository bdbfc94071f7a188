use Rattle.std.proofs.Common.{◌≡◌, ℕ, ◌+◌, ◌≤◌, List, Some, arith}
use Rattle.grid_cells.specs.Cell.{Point}
use Rattle.plan_table.specs.Path.{place}
use Rattle.mapf_rules.specs.declared.visits.Visit.{Visit}
use Rattle.plan_table.proofs.Sets.{set_loses}
use Rattle.plan_table.specs.Sets.{Loses}
use Rattle.cost_ledger.specs.Sets.{LosesEach}
use Rattle.cost_ledger.specs.Through.{IsThrough}
use Rattle.cost_ledger.proofs.KeyOrders.{visit_total, visit_exact}
use Rattle.cost_ledger.proofs.along.unblock.Goals as goal

-- the path's visits, one time further
one_further : (path : List Point) (from : ℕ) (gone : Visit) (old mid new : List Visit) → from ≤ gone.time → place path gone.time ≡ Some gone.cell → LosesEach old mid (IsThrough gone.agent path from gone.time) → Loses mid new gone → LosesEach old new (IsThrough gone.agent path from (gone.time + 1))
one_further path from gone old mid new late there first then v = grind (arith, first v, then v)

pub loop-time-preserved : goal.loop-time-preserved
loop-time-preserved c =
    one_further c.args.plan.now c.args.from (record { agent = c.args.agent; time = c.loop-time.time; cell = c.at.result }) _ _ _ (omega arith) (rw c.new-in-loop-time.ensures at c.at.ensures) c.loop-time.invariant
    (rw c.new.ensures at (set_loses visit_total visit_exact _ _ _ c.remove.ensures.updates))

pub returns : goal.returns
returns c = λ v. grind (arith, c.loop-time.invariant v)
