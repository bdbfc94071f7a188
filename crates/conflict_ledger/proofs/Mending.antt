-- What a ledger has to put in and take out where one agent comes or goes.
use Rattle.std.proofs.Common.{◌≡◌, inl, inr, ℕ, List, Contains, Option, None, sym, subst}
use mathlib.Core.Logic.{◌↔◌}
use Rattle.plan_table.specs.Route.{Route, Fleet}
use Rattle.where_index.specs.Index.{Contents}
use Rattle.mapf_rules.specs.ConflictList.{Stands}
use Rattle.mapf_rules.specs.Naming.{IsPair, time_of}
use Rattle.conflict_ledger.specs.Change.{SameBut}
use Rattle.conflict_ledger.specs.Sight.{Shows}
use Rattle.conflict_ledger.specs.Gathering.{IsAgents}
use Rattle.conflict_ledger.specs.Mending.{IsShare}
use Rattle.conflict_ledger.specs.Spans.{IsIn, HasEntriesIn, SameBeside}
use Rattle.conflict_ledger.specs.declared.spans.Span.{Span}
use Rattle.conflict_ledger.specs.Turns.{IsLeft, IsLeftAt, MayTurn, IsToldAt}
use Rattle.conflict_ledger.specs.declared.turns.Turn.{Turn}
use Rattle.conflict_ledger.specs.declared.turns.Turn.TheVariants.{Broken, Joined}
use Rattle.conflict_ledger.specs.Kept.{GainsAll, LosesAll}
use Rattle.mapf_rules.specs.declared.entries.Conflict.{Conflict}
use Rattle.mapf_rules.specs.declared.entries.Conflict.TheVariants.{Cycle}
use Rattle.conflict_ledger.proofs.Change.{pairs_after_change}
use Rattle.conflict_ledger.proofs.Turning.{names_or_not, unnamed, joined_has, joined_in, arrival, not_free, no_member, stays_ring, goes_ring, left_or_not, told_broken, told_joined}

module _ (index : Contents) (agent : ℕ) (route : Option Route) (out into : Fleet) (hides : Shows index agent None out) (shows : Shows index agent route into) (same : SameBut out into agent) where
  module _ (pairs broken joined : List Conflict) (span : Span) (share : IsShare out into agent route span pairs broken joined) where
    told_in : {turn : Turn} → (time : ℕ) → IsToldAt turn pairs agent time → IsIn span time
    told_in time told = subst (IsIn span) told.at (share.are.only told.entry told.has).1

    -- where such rings have an entry that tells of them, the agent's entries have it
    told_at : (turn : Turn) (fleet : Fleet) → ((x : ℕ) (r : List ℕ) → IsLeftAt fleet route x r → (e : Conflict) × IsAgents into agent e × (time_of e ≡ x) × MayTurn turn e agent) → (e : Conflict) → IsIn span (time_of e) → IsLeft fleet route e → IsToldAt turn pairs agent (time_of e)
    told_at turn fleet tells (Cycle x r) inside left = let w = tells x r left in record { entry = w.0; has = share.are.has w.0 w.1 (subst (IsIn span) (sym w.2) inside); at = w.2; may = w.3 }
    told_at turn fleet tells e inside left = absurd left

    b_is : (e : Conflict) → IsIn span (time_of e) → Contains broken e ↔ IsLeft out route e
    b_is e inside = (λ h. (share.broken_only e h).0, λ left. share.broken_has e left (told_at Broken out (told_broken _ _ _ _ _ hides shows same) e inside left))

    j_is : (e : Conflict) → IsIn span (time_of e) → Contains joined e ↔ IsLeft into route e
    j_is e inside = (λ h. (share.joined_only e h).0, λ left. share.joined_has e left (told_at Joined into (told_joined _ _ _ _ _ hides shows same) e inside left))

    p_is : (e : Conflict) → IsIn span (time_of e) → Contains pairs e ↔ IsAgents into agent e
    p_is e inside = (λ h. (share.are.only e h).0, λ is. share.are.has e is inside)

    -- the agent comes
    module _ (k0 k1 k2 k3 : List Conflict) (loses : LosesAll k0 k1 broken) (gains : GainsAll k1 k2 joined) (more : GainsAll k2 k3 pairs) where
      pair_enters : HasEntriesIn span k0 out → (e : Conflict) → IsIn span (time_of e) → IsPair e → (IsLeft out route e → ⊥) → (IsLeft into route e → ⊥) → Contains k3 e ↔ Stands into e
      pair_enters has e inside pair no_b no_j = (
        λ h. elim ((more e).0 h) [
          | inr p ↦ ((p_is e inside).0 p).stands
          | inl two ↦ elim ((gains e).0 two) [
            | inr j ↦ absurd (no_j ((j_is e inside).0 j))
            | inl one ↦ let stands = (has e inside).0 ((loses e).0 one).0 in (pairs_after_change out into agent e same pair (unnamed _ _ _ _ _ hides shows same e pair stands)).0 stands
          ]
        ],
        λ stands. elim (names_or_not e agent) [
          | inl named ↦ (more e).1 (inr ((p_is e inside).1 (record { stands = stands; pair = pair; names = named })))
          | inr free ↦ (more e).1 (inl ((gains e).1 (inl ((loses e).1 ((has e inside).1 ((pairs_after_change out into agent e same pair free).1 stands), λ b. no_b ((b_is e inside).0 b))))))
        ],
      )

      pub enter_law : HasEntriesIn span k0 out → HasEntriesIn span k3 into
      enter_law has (Cycle x r) inside = (
        λ h. elim ((more (Cycle x r)).0 h) [
          | inr p ↦ absurd ((p_is (Cycle x r) inside).0 p).pair
          | inl two ↦ elim ((gains (Cycle x r)).0 two) [
            | inr new ↦ ((j_is (Cycle x r) inside).0 new).round.round
            | inl one ↦
                let before = (loses (Cycle x r)).0 one in
                stays_ring _ _ _ _ _ hides shows same x r ((has (Cycle x r) inside).0 before.0) (λ left. before.1 ((b_is (Cycle x r) inside).1 left))
          ]
        ],
        λ is. (more (Cycle x r)).1 (inl ((gains (Cycle x r)).1 (elim ((arrival _ _ _ _ _ hides shows same x r).0 is) [
          | inl w ↦ inr ((j_is (Cycle x r) inside).1 (joined_has _ _ _ _ _ hides shows same x r is w.0))
          | inr w ↦ inl ((loses (Cycle x r)).1 ((has (Cycle x r) inside).1 w.1, λ b. not_free _ _ _ _ _ hides shows same x r w.0 ((b_is (Cycle x r) inside).0 b) w.2))
        ]))),
      )
      enter_law has e inside = pair_enters has e inside tt (λ h. h) (λ h. h)

      pub enter_beside : SameBeside span k0 k3
      enter_beside e beside = (
        λ h. elim ((more e).0 h) [
          | inr p ↦ absurd (beside (share.are.only e p).1)
          | inl two ↦ elim ((gains e).0 two) [ inr j ↦ absurd (beside (told_in (time_of e) (share.joined_only e j).1)) | inl one ↦ ((loses e).0 one).0 ]
        ],
        λ h. (more e).1 (inl ((gains e).1 (inl ((loses e).1 (h, λ b. beside (told_in (time_of e) (share.broken_only e b).1)))))),
      )

    -- the agent goes
    module _ (k0 k1 k2 k3 : List Conflict) (loses : LosesAll k0 k1 joined) (fewer : LosesAll k1 k2 pairs) (gains : GainsAll k2 k3 broken) where
      pair_leaves : HasEntriesIn span k0 into → (e : Conflict) → IsIn span (time_of e) → IsPair e → (IsLeft out route e → ⊥) → (IsLeft into route e → ⊥) → Contains k3 e ↔ Stands out e
      pair_leaves has e inside pair no_b no_j = (
        λ h. elim ((gains e).0 h) [
          | inr b ↦ absurd (no_b ((b_is e inside).0 b))
          | inl two ↦
              let first = (fewer e).0 two in
              let stands = (has e inside).0 ((loses e).0 first.0).0 in
              (pairs_after_change out into agent e same pair (λ named. first.1 ((p_is e inside).1 (record { stands = stands; pair = pair; names = named })))).1 stands
        ],
        λ stands.
            let free = unnamed _ _ _ _ _ hides shows same e pair stands in
            (gains e).1 (inl ((fewer e).1 ((loses e).1 ((has e inside).1 ((pairs_after_change out into agent e same pair free).0 stands), λ j. no_j ((j_is e inside).0 j)), λ p. free ((p_is e inside).0 p).names))),
      )

      pub leave_law : HasEntriesIn span k0 into → HasEntriesIn span k3 out
      leave_law has (Cycle x r) inside = (
        λ h. elim ((gains (Cycle x r)).0 h) [
          | inr b ↦ ((b_is (Cycle x r) inside).0 b).round.round
          | inl two ↦
              let before = (loses (Cycle x r)).0 ((fewer (Cycle x r)).0 two).0 in
              let is = (has (Cycle x r) inside).0 before.0 in
              goes_ring _ _ _ _ _ hides shows same x r is (λ in_ring. before.1 ((j_is (Cycle x r) inside).1 (joined_has _ _ _ _ _ hides shows same x r is in_ring)))
        ],
        λ is. elim (left_or_not _ _ _ _ _ hides shows same x r is) [
          | inl left ↦ (gains (Cycle x r)).1 (inr ((b_is (Cycle x r) inside).1 left))
          | inr free ↦
              let none = no_member _ _ _ _ _ hides shows same x r is in
              (gains (Cycle x r)).1 (inl ((fewer (Cycle x r)).1 ((loses (Cycle x r)).1 ((has (Cycle x r) inside).1 (stays_ring _ _ _ _ _ hides shows same x r is free), λ j. none (joined_in _ _ _ _ _ hides shows same x r ((j_is (Cycle x r) inside).0 j))), λ p. absurd ((p_is (Cycle x r) inside).0 p).pair)))
        ],
      )
      leave_law has e inside = pair_leaves has e inside tt (λ h. h) (λ h. h)

      pub leave_beside : SameBeside span k0 k3
      leave_beside e beside = (
        λ h. elim ((gains e).0 h) [
          | inr b ↦ absurd (beside (told_in (time_of e) (share.broken_only e b).1))
          | inl two ↦ ((loses e).0 ((fewer e).0 two).0).0
        ],
        λ h. (gains e).1 (inl ((fewer e).1 ((loses e).1 (h, λ j. beside (told_in (time_of e) (share.joined_only e j).1)), λ p. beside (share.are.only e p).1))),
      )
