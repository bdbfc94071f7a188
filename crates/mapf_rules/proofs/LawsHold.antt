-- Laws of the definitions of conflicts.
use Rattle.std.proofs.lemmas.Bool.Decides.{nat_tests}
use Rattle.std.proofs.Common.{◌≡◌, ℕ, ◌+◌, ◌<◌, ◌≤◌, Some, Option, refl, subst, ◌∙◌, ◌⊎◌, inl, inr, arith}
use Rattle.std.specs.Prelude.{IsSome}
use Rattle.std.proofs.lemmas.Bool.{cases_lt}
use Rattle.std.proofs.lemmas.List.{get_or_default}
use Rattle.grid_cells.specs.Cell.{Point}
use Rattle.plan_table.specs.Route.{Fleet, position_of, leaves_of, Leaves}
use Rattle.plan_table.proofs.Order.{ListsAll-unique}
use Rattle.plan_table.proofs.Fleets.{true_or_not, position_sooner}
use Rattle.mapf_rules.specs.Entries.{IsVertex, IsParked, both_end_by}
use Rattle.mapf_rules.specs.ConflictList.{Stands, listing_key}
use Rattle.mapf_rules.specs.Laws.{OneConflictList, MeetingsAreTold, NamedAgentsAreThere, HasStep, Meet}
use Rattle.mapf_rules.specs.declared.entries.Conflict.TheVariants.{Vertex, Parked, Edge, Following, Swapping, Cycle}

pub one_list : OneConflictList
one_list fleet xs ys left right = ListsAll-unique listing_key (Stands fleet) xs ys left right

-- two agents that meet and don't leave, when both are at rest, are parked
parked_there : (fleet : Fleet) (time first second : ℕ) (cell : Point) → first < second → Meet fleet time first second cell → both_end_by fleet first second ≤ time → (Leaves fleet first → ⊥) → (Leaves fleet second → ⊥) → IsParked fleet (both_end_by fleet first second) first second cell
parked_there fleet time first second cell ordered meet resting a_stays b_stays = grind (arith, nat_tests)

meets : (fleet : Fleet) (time first second : ℕ) (cell : Point) → first < second → Meet fleet time first second cell → IsVertex fleet time first second cell ⊎ ((from : ℕ) × (from ≤ time) × IsParked fleet from first second cell)
meets fleet time first second cell ordered meet =
    elim (cases_lt time (both_end_by fleet first second)) [
      | inl moving ↦ inl (record { ordered = ordered; first_there = meet.0; second_there = meet.1; passes = inl moving })
      | inr resting ↦
          grind (arith, true_or_not (leaves_of fleet first), true_or_not (leaves_of fleet second), parked_there fleet time first second cell ordered meet resting, resting)
    ]

meets_back : (fleet : Fleet) (time first second : ℕ) (cell : Point) → IsVertex fleet time first second cell ⊎ ((from : ℕ) × (from ≤ time) × IsParked fleet from first second cell) → Meet fleet time first second cell
meets_back fleet time first second cell (inl vertex) = (vertex.first_there, vertex.second_there)
meets_back fleet time first second cell (inr (from, le, parked)) = grind (arith, nat_tests)

pub meetings : MeetingsAreTold
meetings fleet time first second cell ordered = (meets fleet time first second cell ordered, meets_back fleet time first second cell)

is_some : {X : Type 0} (o : Option X) (x : X) → o ≡ Some x → IsSome o
is_some o x e = rw e refl

-- an agent that has a position after a step has one before it
has_step : (fleet : Fleet) (time agent : ℕ) → IsSome (position_of fleet agent (time + 1)) → HasStep fleet time agent
has_step fleet time agent later = (position_sooner fleet agent time later, later)

pub named : NamedAgentsAreThere
named fleet (Vertex x a b c) stands = tt
named fleet (Parked x a b c) stands = tt
named fleet (Edge x a b c n) stands = (has_step fleet x a (is_some _ n stands.first_to), has_step fleet x b (is_some _ n stands.second_to))
named fleet (Following x a b c) stands = (has_step fleet x a (is_some _ c stands.follower_to), has_step fleet x b stands.leader_goes_on)
named fleet (Swapping x a b c n) stands = (has_step fleet x a (is_some _ n stands.first_to), has_step fleet x b (is_some _ c stands.second_to))
named fleet (Cycle x ring) stands = λ agent has.
    let here = get_or_default ring has.0 0 agent has.1 ∙ has.2 in
    let step = stands.round has.0 has.1 in
    subst (λ a. HasStep fleet x a) here (has_step fleet x _ (is_some _ step.0 step.1.follower_to))
