-- Agents of entries that stand are of the fleet, and the entries are of times before all paths end.
use Rattle.std.proofs.Common.{ℕ, ◌≤◌, refl, arith}
use Rattle.std.specs.Prelude.{IsSome}
use Rattle.plan_table.specs.Route.{Fleet, last_of}
use Rattle.mapf_rules.specs.ConflictList.{Stands}
use Rattle.mapf_rules.specs.Naming.{IsOfPair, time_of, first_agent}
use Rattle.mapf_rules.specs.declared.entries.Conflict.{Conflict}
use Rattle.mapf_rules.specs.declared.entries.Conflict.TheVariants.{Cycle}
use Rattle.mapf_rules.proofs.RingOrder.{ring_live, ring_early}

pub stands_live : (fleet : Fleet) (entry : Conflict) (time first second : ℕ) → Stands fleet entry → IsOfPair entry time first second → IsSome (fleet first) × IsSome (fleet second)
stands_live fleet entry time first second stands of = grind arith

pair_early : (fleet : Fleet) (h : ℕ) → ((agent : ℕ) → last_of fleet agent ≤ h) → (entry : Conflict) (time first second : ℕ) → Stands fleet entry → IsOfPair entry time first second → time ≤ h
pair_early fleet h above entry time first second stands of = grind (arith, above first, above second)

-- whoever an entry names first is of the fleet
pub stands_first : (fleet : Fleet) (entry : Conflict) → Stands fleet entry → IsSome (fleet (first_agent entry))
stands_first fleet (Cycle x r) is = ring_live fleet x r is
stands_first fleet entry is = (stands_live fleet entry _ _ _ is (refl, refl, refl)).0

-- no entry stands past the greatest last index
pub stands_early : (fleet : Fleet) (h : ℕ) → ((agent : ℕ) → last_of fleet agent ≤ h) → (entry : Conflict) → Stands fleet entry → time_of entry ≤ h
stands_early fleet h above (Cycle x r) is = ring_early fleet h x r above is
stands_early fleet h above entry is = pair_early fleet h above entry _ _ _ is (refl, refl, refl)
