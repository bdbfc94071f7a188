-- Rings at the cells that one agent moves out of.
use Rattle.std.proofs.lemmas.Bool.Decides.{nat_tests}
use Rattle.std.proofs.Common.{◌≡◌, ℕ, ◌<◌, List, Option, Some, None, subst, ◌∙◌, arith}
use Rattle.std.specs.Prelude.{IfSome}
use Rattle.plan_table.specs.Route.{Route, Fleet, last_of}
use Rattle.where_index.specs.Index.{Contents}
use Rattle.conflict_ledger.specs.Sight.{Shows}
use Rattle.mapf_rules.specs.Naming.{time_of}
use Rattle.conflict_ledger.specs.Turns.{IsLeft, IsLeftAt, MayTurn}
use Rattle.conflict_ledger.specs.declared.turns.Turn.{Turn}
use Rattle.mapf_rules.specs.declared.entries.Conflict.{Conflict}
use Rattle.mapf_rules.specs.declared.entries.Conflict.TheVariants.{Cycle}

-- an agent that moves in a step does so before its last index
pub left_early : (index : Contents) (agent : ℕ) (route : Option Route) (other : Fleet) (shows : Shows index agent route other) (last : ℕ) → last ≡ last_of other agent → (fleet : Fleet) (time : ℕ) (ring : List ℕ) → IsLeftAt fleet route time ring → time < last
left_early index agent route other shows last is_last fleet time ring left = grind (arith, nat_tests)

-- what was found at the time is each such ring of that time
pub left_found : (fleet : Fleet) (route : Option Route) (time : ℕ) (found : Option Conflict) → ((ring : List ℕ) → IsLeftAt fleet route time ring → found ≡ Some (Cycle time ring)) → (entry : Conflict) → IsLeft fleet route entry → time_of entry ≡ time → found ≡ Some entry
left_found fleet route time found is (Cycle x r) left at = rw at (is r (subst (λ (t : ℕ). IsLeftAt fleet route t r) at left))
left_found fleet route time found is entry left at = absurd left

-- such a ring is of a time before the last index
pub left_before : (index : Contents) (agent : ℕ) (route : Option Route) (other : Fleet) (shows : Shows index agent route other) (last : ℕ) → last ≡ last_of other agent → (fleet : Fleet) (entry : Conflict) → IsLeft fleet route entry → time_of entry < last
left_before index agent route other shows last is fleet (Cycle x r) left = left_early index agent route other shows last is fleet x r left
left_before index agent route other shows last is fleet entry left = absurd left

pub told_found : (fleet : Fleet) (route : Option Route) (found : Option Conflict) (time : ℕ) (turn : Turn) (told : Conflict) (agent : ℕ) → time ≡ time_of told → MayTurn turn told agent → IfSome found (λ e. IsLeft fleet route e × (time_of e ≡ time)) → IfSome found (λ e. IsLeft fleet route e × (time_of e ≡ time_of told) × MayTurn turn told agent)
told_found fleet route None time turn told agent at may is = tt
told_found fleet route (Some e) time turn told agent at may is = (is.0, is.1 ∙ at, may)
