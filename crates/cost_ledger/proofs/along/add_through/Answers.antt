use Rattle.std.proofs.Common.{◌≡◌, ◌⊎◌, ℕ, ◌+◌, List, arith}
use mathlib.Core.Logic.{◌↔◌}
use Rattle.grid_cells.specs.Cell.{Point}
use Rattle.mapf_rules.specs.declared.visits.Visit.{Visit}
use Rattle.cost_ledger.specs.Through.{IsThrough}
use Rattle.cost_ledger.proofs.Sets.{gains_then}
use Rattle.cost_ledger.proofs.along.add_through.Goals as goal

-- the path's visits to a cell, one time further
to_more : (agent : ℕ) (path : List Point) (to : Point) (time : ℕ) (v : Visit) → ((v.cell ≡ to) × IsThrough agent path 0 (time + 1) v) ↔ (((v.cell ≡ to) × IsThrough agent path 0 time v) ⊎ ((v.cell ≡ to) × IsThrough agent path time (time + 1) v))
to_more agent path to time v = grind arith

pub loop-time-preserved : goal.loop-time-preserved
loop-time-preserved c =
    gains_then _ _ _ _ _ _ (to_more c.args.agent c.args.plan.now c.args.cell c.loop-time.time) c.loop-time.invariant c.in_ok-add_if_there.ensures

pub returns : goal.returns
returns c = λ v. grind (arith, c.loop-time.invariant v)
