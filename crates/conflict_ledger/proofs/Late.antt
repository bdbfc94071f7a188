-- Where the entries of one agent are found in an index.
use Rattle.std.proofs.lemmas.Bool.Decides.{nat_tests}
use Rattle.std.proofs.Common.{◌≡◌, ◌≢◌, ◌⊎◌, inl, inr, ℕ, ◌+◌, ◌<◌, ◌≤◌, List, Some, None, Option, refl, sym, subst, ◌∙◌, arith}
use Rattle.std.specs.Prelude.{min, max}
use Rattle.std.proofs.lemmas.Option.{same_Some}
use Rattle.grid_cells.specs.Cell.{Point}
use Rattle.plan_table.specs.Route.{Route, Fleet, position_of, last_of, Leaves}
use Rattle.plan_table.proofs.Fleets.{changes_early}
use Rattle.where_index.specs.Index.{Contents}
use Rattle.where_index.specs.Asked.{Passes}
use Rattle.where_index.specs.declared.passings.Passing.{Passing}
use Rattle.mapf_rules.specs.Entries.{both_end_by, IsVertex, IsParked, IsFollowing}
use Rattle.mapf_rules.specs.ConflictList.{Stands}
use Rattle.mapf_rules.specs.Naming.{IsPair, Names, time_of}
use Rattle.conflict_ledger.specs.Sight.{Shows}
use Rattle.conflict_ledger.specs.Gathering.{HasPlace, HasTime}
use Rattle.conflict_ledger.specs.Late.{IsPassed, IsLateOf}
use Rattle.conflict_ledger.specs.declared.places.Place.TheVariants.{Ahead}
use Rattle.conflict_ledger.proofs.Change.{there}
use Rattle.mapf_rules.specs.declared.entries.Conflict.{Conflict}
use Rattle.mapf_rules.specs.declared.entries.Conflict.TheVariants.{Vertex, Parked, Following}

module _ (index : Contents) (agent : ℕ) (route : Option Route) (fleet : Fleet) (shows : Shows index agent route fleet) where
  pub base_there : (a time : ℕ) (cell : Point) → a ≢ agent → position_of fleet a time ≡ Some cell → position_of shows.base a time ≡ Some cell
  base_there a time cell apart at = there shows.base fleet agent shows.others a time apart ∙ at

  pub fleet_there : (a time : ℕ) (cell : Point) → a ≢ agent → position_of shows.base a time ≡ Some cell → position_of fleet a time ≡ Some cell
  fleet_there a time cell apart at = sym (there shows.base fleet agent shows.others a time apart) ∙ at

  module _ (last : ℕ) (is_last : last ≡ last_of fleet agent) where
    -- after its last index the agent is where it is one step later, if anywhere
    pub rests_there : (time : ℕ) (cell : Point) → last < time → position_of fleet agent time ≡ Some cell → position_of fleet agent (last + 1) ≡ Some cell
    rests_there time cell late at = grind (arith, nat_tests)

    still : (time : ℕ) → last < time → position_of fleet agent time ≢ position_of fleet agent (time + 1) → ⊥
    still time late changes = let early = changes_early fleet agent time changes in omega arith

    -- an agent that comes to a cell in a step has not passed its last index after it
    pub comes_early : (other time : ℕ) (cell : Point) → position_of fleet other time ≢ Some cell → position_of fleet other (time + 1) ≡ Some cell → time + 1 ≤ last_of fleet other
    comes_early other time cell before after = grind (arith, nat_tests)

    module _ (rest : Point) (rests : position_of fleet agent (last + 1) ≡ Some rest) where
      same_rest : (time : ℕ) (cell : Point) → last < time → position_of fleet agent time ≡ Some cell → cell ≡ rest
      same_rest time cell late at = same_Some cell rest (sym (rests_there time cell late at) ∙ rests)

      -- and another one passes it
      pub passed : (passing : Passing) → passing.agent ≢ agent → Passes shows.base rest (last + 1) passing → IsPassed fleet passing.time agent passing.agent rest
      passed passing apart passes = grind (arith, nat_tests)

      abbrev LatePlace : Conflict → Type 0
      LatePlace entry = (passing : Passing) × IsLateOf entry passing.time agent passing.agent rest × (passing.agent ≢ agent) × Passes shows.base rest (last + 1) passing

      passes : (other time : ℕ) (cell : Point) → other ≢ agent → cell ≡ rest → last < time → time ≤ last_of fleet other → position_of fleet other time ≡ Some cell → Passes shows.base rest (last + 1) (record { time = time; agent = other })
      passes other time cell apart same late early at = grind (arith, nat_tests)

      -- of two agents that meet, of whom one is at rest, the other has not passed its last index
      meets_early : (other time : ℕ) (cell : Point) → last < time → position_of fleet agent time ≡ Some cell → position_of fleet other time ≡ Some cell → (time < both_end_by fleet agent other) ⊎ (Leaves fleet agent ⊎ Leaves fleet other) → time ≤ last_of fleet other
      meets_early other time cell late here there_too how = grind (arith, nat_tests)

      pub late_place : (entry : Conflict) → IsPair entry → Names entry agent → Stands fleet entry → last < time_of entry → LatePlace entry
      late_place (Vertex x p q c) pair names h late = elim names [
        | inl e ↦
            let here : position_of fleet agent x ≡ Some c = subst (λ (a : ℕ). position_of fleet a x ≡ Some c) e h.first_there in
            let apart : q ≢ agent = λ is. omega (arith, h.ordered, e, is) in
            let early = meets_early q x c late here h.second_there (subst (λ (a : ℕ). (x < both_end_by fleet a q) ⊎ (Leaves fleet a ⊎ Leaves fleet q)) e h.passes) in
            (record { time = x; agent = q }, (refl, same_rest x c late here, inl (e, refl)), apart, passes q x c apart (same_rest x c late here) late early h.second_there)
        | inr e ↦
            let here : position_of fleet agent x ≡ Some c = subst (λ (a : ℕ). position_of fleet a x ≡ Some c) e h.second_there in
            let apart : p ≢ agent = λ is. omega (arith, h.ordered, e, is) in
            let how : (x < both_end_by fleet agent p) ⊎ (Leaves fleet agent ⊎ Leaves fleet p) = turned p x (subst (λ (a : ℕ). (x < both_end_by fleet p a) ⊎ (Leaves fleet p ⊎ Leaves fleet a)) e h.passes) in
            let early = meets_early p x c late here h.first_there how in
            (record { time = x; agent = p }, (refl, same_rest x c late here, inr (refl, e)), apart, passes p x c apart (same_rest x c late here) late early h.first_there)
      ]
        where
          turned : (b t : ℕ) → (t < both_end_by fleet b agent) ⊎ (Leaves fleet b ⊎ Leaves fleet agent) → (t < both_end_by fleet agent b) ⊎ (Leaves fleet agent ⊎ Leaves fleet b)
          turned b t how = elim how [ inl moving ↦ inl (omega arith) | inr leaves ↦ elim leaves [ inl l ↦ inr (inr l) | inr l ↦ inr (inl l) ] ]
      late_place (Parked x p q c) pair names h late = elim names [
        | inl e ↦
            let here : position_of fleet agent x ≡ Some c = subst (λ (a : ℕ). position_of fleet a x ≡ Some c) e h.first_there in
            let apart : q ≢ agent = λ is. omega (arith, h.ordered, e, is) in
            let end : x ≡ both_end_by fleet agent q = subst (λ (a : ℕ). x ≡ both_end_by fleet a q) e h.rests in
            (record { time = x; agent = q }, (refl, same_rest x c late here, inl (e, refl)), apart, passes q x c apart (same_rest x c late here) late (omega (arith, is_last, late)) h.second_there)
        | inr e ↦
            let here : position_of fleet agent x ≡ Some c = subst (λ (a : ℕ). position_of fleet a x ≡ Some c) e h.second_there in
            let apart : p ≢ agent = λ is. omega (arith, h.ordered, e, is) in
            let end : x ≡ both_end_by fleet p agent = subst (λ (a : ℕ). x ≡ both_end_by fleet p a) e h.rests in
            (record { time = x; agent = p }, (refl, same_rest x c late here, inr (refl, e)), apart, passes p x c apart (same_rest x c late here) late (omega (arith, is_last, late)) h.first_there)
      ]
      late_place (Following x f l c) pair names h late = elim names [
        | inl e ↦ absurd (still x late (λ same. h.moves (subst (λ (a : ℕ). position_of fleet a x ≡ Some c) (sym e) (same ∙ subst (λ (a : ℕ). position_of fleet a (x + 1) ≡ Some c) e h.follower_to))))
        | inr e ↦
            let here : position_of fleet agent x ≡ Some c = subst (λ (a : ℕ). position_of fleet a x ≡ Some c) e h.leader_there in
            let apart : f ≢ agent = λ is. h.two (is ∙ sym e) in
            let early = comes_early f x c h.moves h.follower_to in
            (record { time = x + 1; agent = f }, (refl, same_rest x c late here, refl, e), apart, passes f (x + 1) c apart (same_rest x c late here) (omega arith) early h.follower_to)
      ]
      late_place entry pair names h late = absurd (grind (arith, nat_tests))

    -- an agent stays where it is at its last index, and meets nobody ahead
    pub ahead_none : (entries : List Conflict) → HasPlace fleet agent last Ahead entries
    ahead_none entries other cell apart to there entry is at two _ met = grind (arith, nat_tests)

    -- an agent that is nowhere after its last index has no entries then
    pub late_none : position_of fleet agent (last + 1) ≡ None → (time : ℕ) (entries : List Conflict) → last < time → HasTime fleet agent time entries
    late_none none time entries late = grind (arith, nat_tests)

-- what is offered of an agent at rest and one that passes are all such entries
pub one_of_late : (fleet : Fleet) (time agent other first second : ℕ) (rest : Point) (m f : Option Conflict) → first ≡ min agent other → second ≡ max agent other
    → (IsVertex fleet time first second rest → m ≡ Some (Vertex time first second rest)) → (IsParked fleet time first second rest → m ≡ Some (Parked time first second rest))
    → ((x : ℕ) → x + 1 ≡ time → IsFollowing fleet x other agent rest → f ≡ Some (Following x other agent rest))
    → (entry : Conflict) → Stands fleet entry → IsLateOf entry time agent other rest → (m ≡ Some entry) ⊎ (f ≡ Some entry)
one_of_late fleet time agent other first second rest m f least most vs ps fs (Following x a b c) h (is_time, is_cell, is_f, is_l) = inr (fs x is_time (rw (← is_cell, ← is_f, ← is_l) h) ∙ rw (is_cell, is_f, is_l) refl)
one_of_late fleet time agent other first second rest m f least most vs ps fs entry h late = grind (arith, nat_tests)
