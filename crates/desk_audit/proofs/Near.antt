-- Whom an entry names beside the agent that it names first, and where that one is.
use Rattle.std.proofs.Common.{◌≡◌, ◌≢◌, ℕ, ◌+◌, ◌%◌, ◌<◌, ◌≤◌, List, length, Option, Some, refl, sym, ◌∙◌, ◌⊎◌, inl, inr, arith}
use Rattle.std.proofs.lemmas.Option.{same_Some}
use Rattle.grid_cells.specs.Cell.{Point}
use Rattle.plan_table.specs.Route.{Fleet, position_of, last_of, Leaves}
use Rattle.plan_table.proofs.Fleets.{changes_early, leaver_early, position_rests}
use Rattle.mapf_rules.specs.ConflictList.{Stands}
use Rattle.mapf_rules.specs.Naming.{IsOfPair, time_of, first_agent}
use Rattle.mapf_rules.specs.declared.entries.Conflict.{Conflict}
use Rattle.mapf_rules.specs.declared.entries.Conflict.TheVariants.{Vertex, Parked, Edge, Following, Swapping, Cycle}
use Rattle.desk_audit.specs.Seeking.{IsRingFrom, Leads, IsAhead, HasOthersIn, IsOfMet, IsOfPassed}
use Rattle.desk_audit.specs.Index.{HasPasses, IsIndexOf, pass}
use Rattle.desk_audit.specs.declared.tables.Pass.{Pass}
use Rattle.desk_audit.specs.declared.sightings.Sightings.{Sightings}
use Rattle.desk_audit.proofs.Index.{some_share}

-- the two are in one cell
pub record Meets (fleet : Fleet) (time agent : ℕ) (entry : Conflict) : Type 0 where
  pub other : ℕ
  pub apart : other ≢ agent
  pub cell : Point
  pub here : position_of fleet agent time ≡ Some cell
  pub there : position_of fleet other time ≡ Some cell
  pub of : IsOfPair entry time agent other

-- the first moves on to the cell of the next
pub record MovesOn (fleet : Fleet) (time agent : ℕ) (entry : Conflict) : Type 0 where
  pub cell : Point
  pub to : position_of fleet agent (time + 1) ≡ Some cell
  pub moves : position_of fleet agent time ≢ Some cell
  pub leads : Leads fleet time agent cell entry

-- an entry is of two that meet, or of one that moves on to the cell of the next
pub meets_or_moves : (fleet : Fleet) (entry : Conflict) → Stands fleet entry → Meets fleet (time_of entry) (first_agent entry) entry ⊎ MovesOn fleet (time_of entry) (first_agent entry) entry
meets_or_moves fleet (Vertex x a b c) is = inl (record { other = b; apart = λ same. omega (arith, is.ordered, same); cell = c; here = is.first_there; there = is.second_there; of = (refl, refl, refl) })
meets_or_moves fleet (Parked x a b c) is = inl (record { other = b; apart = λ same. omega (arith, is.ordered, same); cell = c; here = is.first_there; there = is.second_there; of = (refl, refl, refl) })
meets_or_moves fleet (Edge x a b c n) is = inl (record { other = b; apart = λ same. omega (arith, is.ordered, same); cell = c; here = is.first_from; there = is.second_from; of = (refl, refl, refl) })
meets_or_moves fleet (Following x a b c) is = inr (record { cell = c; to = is.follower_to; moves = is.moves; leads = record { other = b; apart = λ same. is.two (sym same); there = is.leader_there; of = inl (refl, refl, refl) } })
meets_or_moves fleet (Swapping x a b c n) is = inr (record { cell = n; to = is.first_to; moves = λ same. is.moves (same_Some c n (sym is.first_from ∙ same)); leads = record { other = b; apart = λ same. omega (arith, is.ordered, same); there = is.second_from; of = inl (refl, refl, refl) } })
meets_or_moves fleet (Cycle x r) is =
    let step = is.round 0 (omega (arith, is.three)) in
    inr (record { cell = step.0; to = step.1.follower_to; moves = step.1.moves; leads = record { other = _; apart = λ same. step.1.two (sym same); there = step.1.leader_there; of = inr (r, refl, refl) } })

-- whoever moves has not come to the end of its path
pub moves_early : (fleet : Fleet) (time agent : ℕ) (entry : Conflict) → MovesOn fleet time agent entry → time ≤ last_of fleet agent
moves_early fleet time agent entry on = changes_early fleet agent time (λ same. on.moves (same ∙ on.to))

changed : (fleet : Fleet) (time agent : ℕ) (cell next : Point) → position_of fleet agent time ≡ Some cell → position_of fleet agent (time + 1) ≡ Some next → cell ≢ next → time ≤ last_of fleet agent
changed fleet time agent cell next from to differs = changes_early fleet agent time (λ same. grind arith)

-- two that meet are not both past the ends of their paths
pub meets_early : (fleet : Fleet) (entry : Conflict) (time first second : ℕ) → Stands fleet entry → IsOfPair entry time first second → last_of fleet first < time → last_of fleet second < time → ⊥
meets_early fleet (Vertex x a b c) time first second is of late_a late_b = grind (arith, leaver_early fleet a x c, leaver_early fleet b x c)
meets_early fleet (Parked x a b c) time first second is of late_a late_b = grind arith
meets_early fleet (Edge x a b c n) time first second is of late_a late_b = grind (arith, changed fleet x a c n is.first_from is.first_to is.moves)
meets_early fleet (Following x a b c) time first second is of late_a late_b = grind (arith, changes_early fleet a x (λ same. is.moves (same ∙ is.follower_to)))
meets_early fleet (Swapping x a b c n) time first second is of late_a late_b = grind (arith, changed fleet x a c n is.first_from is.first_to is.moves)
meets_early fleet (Cycle x r) time first second is of late_a late_b = absurd of

-- an entry of the step is of one that is met where the agent is, or of one that is in the cell ahead
pub step_splits : (fleet : Fleet) (time agent : ℕ) (here : Point) (ahead : Option Point) (met : List Pass) → position_of fleet agent time ≡ Some here → IsAhead fleet agent time here ahead → HasOthersIn fleet time here agent met
    → (entry : Conflict) → Stands fleet entry → (time_of entry ≡ time) × (first_agent entry ≡ agent) → IsOfMet time agent met entry ⊎ ((cell : Point) × (ahead ≡ Some cell) × Leads fleet time agent cell entry)
step_splits fleet time agent here ahead met at goes has entry stands named = elim (rw (named.0, named.1) at (meets_or_moves fleet entry stands)) [
  | inl meets ↦
      let found = has meets.other meets.apart (grind arith) in
      inl (record { other = found.0; listed = found.3; early = found.2; of = rw found.1 meets.of })
  | inr on ↦ inr (on.cell, goes on.cell on.to (grind arith), on.leads)
]

pub leads_splits : (fleet : Fleet) (time agent : ℕ) (cell : Point) (met : List Pass) → HasOthersIn fleet time cell agent met → (entry : Conflict) → Leads fleet time agent cell entry → IsOfMet time agent met entry ⊎ IsRingFrom time agent entry
leads_splits fleet time agent cell met has entry leads = let found = has leads.other leads.apart leads.there in grind (arith, found, leads.of)

pub leads_some : (fleet : Fleet) (time agent : ℕ) (cell : Point) (met : List Pass) → HasOthersIn fleet time cell agent met → (entry : Conflict) → Leads fleet time agent cell entry → 0 < length met
leads_some fleet time agent cell met has entry leads = omega (arith, (has leads.other leads.apart leads.there).3.1)

-- an entry of a time after the agent's path has ended is of one that passes by
pub late_splits : (fleet : Fleet) (index : List Sightings) (end agent : ℕ) (cell : Point) (passes : List Pass) → IsIndexOf fleet index → end ≡ last_of fleet agent → position_of fleet agent end ≡ Some cell
    → HasPasses index cell agent passes
    → (entry : Conflict) → Stands fleet entry → (end < time_of entry) × (first_agent entry ≡ agent) → IsOfPassed fleet end agent passes entry
late_splits fleet index end agent cell passes is end_is at has entry stands named = elim (rw named.1 at (meets_or_moves fleet entry stands)) [
  | inr on ↦ absurd (omega (arith, named.0, moves_early fleet (time_of entry) agent entry on))
  | inl meets ↦
      let late : last_of fleet agent < time_of entry = omega (arith, named.0) in
      let stays : Leaves fleet agent → ⊥ = λ leaves. omega (arith, leaver_early fleet agent (time_of entry) meets.cell leaves meets.here) in
      let rests = position_rests fleet agent end (time_of entry) stays (omega (arith, end_is)) (omega (arith, named.0)) in
      let early : time_of entry ≤ last_of fleet meets.other = grind (arith, meets_early fleet entry (time_of entry) agent meets.other stands meets.of) in
      let at_time = some_share index is.some (time_of entry) in
      let filed = (is.shares (time_of entry % length index) at_time.0 at_time.1).passes meets.other agent (time_of entry) cell refl (early, grind arith) (late, rests ∙ at) in
      record { other = pass (time_of entry) meets.other; listed = has (time_of entry % length index) at_time.0 (pass (time_of entry) meets.other) at_time.1 filed meets.apart; later = named.0; on_path = early; of = meets.of }
]
