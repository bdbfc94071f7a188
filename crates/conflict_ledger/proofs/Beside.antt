-- The times at which a change of one route can change entries, and the others.
use Rattle.std.proofs.Common.{◌≡◌, ◌⊎◌, inl, inr, ℕ, ◌+◌, List, Option, Some, None, sym, subst, arith}
use Rattle.std.specs.Prelude.{IfSome}
use Rattle.plan_table.specs.Route.{Route, Fleet, route_of, position}
use Rattle.mapf_rules.specs.ConflictList.{Stands}
use Rattle.mapf_rules.specs.Naming.{time_of}
use Rattle.conflict_ledger.specs.Change.{SameBut}
use Rattle.conflict_ledger.specs.Kept.{HasEntries}
use Rattle.conflict_ledger.specs.Spans.{IsIn, Fits, AreApartAt, AreSameAt, HasEntriesIn, SameBeside}
use Rattle.conflict_ledger.specs.declared.spans.Span.{Span}
use Rattle.conflict_ledger.specs.declared.spans.Tracks.{Tracks}
use Rattle.mapf_rules.specs.declared.entries.Conflict.{Conflict}
use Rattle.mapf_rules.specs.declared.entries.Conflict.TheVariants.{Cycle}
use Rattle.conflict_ledger.proofs.Change.{IsAlike, alike, stands_alike, ring_alike}
use Rattle.conflict_ledger.proofs.Turning.{place_or_not}
use Rattle.mapf_rules.proofs.Walks.{same_or_not}

-- two routes are at different places at a time, or not
apart_or_not : (old new : Route) (t : ℕ) → AreApartAt old new t ⊎ (position old t ≡ position new t)
apart_or_not old new t = grind (arith, place_or_not (position old t) (position new t))

tracks_or_not : (o : Option Tracks) (t : ℕ) → let apart = IfSome o (λ both. AreApartAt (route_of both.old) (route_of both.new) t ⊎ AreApartAt (route_of both.old) (route_of both.new) (t + 1)) in apart ⊎ (apart → ⊥)
tracks_or_not None t = inl tt
tracks_or_not (Some both) t = grind (arith, apart_or_not (route_of both.old) (route_of both.new) t, apart_or_not (route_of both.old) (route_of both.new) (t + 1))

pub in_or_not : (span : Span) (t : ℕ) → IsIn span t ⊎ (IsIn span t → ⊥)
in_or_not span t = grind (arith, tracks_or_not span.tracks t)

-- all times are those of the whole span, which fits each end
pub all_in : (span : Span) → span.from ≡ 0 → span.tracks ≡ None → (t : ℕ) → IsIn span t
all_in span from none t = record { not_before = omega (arith, from); apart = rw none tt }

pub whole_fits : (span : Span) → span.from ≡ 0 → span.tracks ≡ None → (last : ℕ) → Fits span last
whole_fits span from none last = record { begins = omega (arith, from); ends = rw none tt }

pub whole_before : (span : Span) → span.from ≡ 0 → span.tracks ≡ None → (kept : List Conflict) (fleet : Fleet) → HasEntries kept fleet → HasEntriesIn span kept fleet
whole_before span from none kept fleet has entry is = has entry

pub whole_after : (span : Span) → span.from ≡ 0 → span.tracks ≡ None → (kept : List Conflict) (fleet : Fleet) → HasEntriesIn span kept fleet → HasEntries kept fleet
whole_after span from none kept fleet has entry = has entry (all_in span from none (time_of entry))

turned : (old new : Route) (t : ℕ) → AreSameAt old new t → AreSameAt new old t
turned old new t at = grind arith

module _ (old new : Fleet) (agent : ℕ) (same : SameBut old new agent) (was is : Route) (own_old : old agent ≡ Some was) (own_new : new agent ≡ Some is) where
  own_alike : (t : ℕ) → AreSameAt was is t → IsAlike old new t agent
  own_alike t at = grind (arith)

  -- at a time at which the routes are the same each agent is alike
  alike_at : (t a : ℕ) → AreSameAt was is t → IsAlike old new t a
  alike_at t a at = elim (same_or_not a agent) [ inr apart ↦ alike old new agent same t a apart | inl e ↦ subst (IsAlike old new t) (sym e) (own_alike t at) ]

  -- so an entry of that time stands in both fleets
  pub stands_on : (entry : Conflict) → AreSameAt was is (time_of entry) → Stands old entry → Stands new entry
  stands_on (Cycle t ring) at = ring_alike old new t ring (λ a _. alike_at t a at) (λ member other cell in_ring here moves. alike_at t other at)
  stands_on entry at = stands_alike old new entry tt (λ a _. alike_at (time_of entry) a at)

-- entries mended at the span's times, beside which the routes are the same, are those of the new fleet
pub mended : (old new : Fleet) (agent : ℕ) → SameBut old new agent → (was is : Route) → old agent ≡ Some was → new agent ≡ Some is → (span : Span) → ((t : ℕ) → (IsIn span t → ⊥) → AreSameAt was is t)
    → (kept mid now : List Conflict) → HasEntries kept old → SameBeside span kept mid → SameBeside span mid now → HasEntriesIn span now new → HasEntries now new
mended old new agent same was is own_old own_new span beside kept mid now has one two mends entry = elim (in_or_not span (time_of entry)) [
  | inl inside ↦ mends entry inside
  | inr out ↦
      let at = beside (time_of entry) out in (
        λ h. stands_on old new agent same was is own_old own_new entry at ((has entry).0 ((one entry out).0 ((two entry out).0 h))),
        λ stands. (two entry out).1 ((one entry out).1 ((has entry).1 (stands_on new old agent (λ a apart. sym (same a apart)) is was own_new own_old entry (turned was is (time_of entry) at) stands))),
      )
]
