-- What a search beside one agent's track gathers.
use Rattle.std.proofs.lemmas.Bool.Decides.{nat_tests}
use Rattle.std.proofs.Common.{◌≡◌, ◌⊎◌, inl, inr, ℕ, ◌+◌, ◌≤◌, ◌<◌, List, [], Contains, Option, Some, None, refl, subst, arith}
use Rattle.std.proofs.lemmas.Bool.{cases_lt}
use Rattle.plan_table.proofs.Order.{Contains-nil}
use Rattle.conflict_ledger.specs.Spans.{IsIn, Fits, AreApartAt}
use Rattle.conflict_ledger.specs.declared.spans.Tracks.{Tracks}
use Rattle.conflict_ledger.specs.declared.spans.Span.{Span}
use Rattle.std.specs.Prelude.{IfSome}
use Rattle.std.proofs.lemmas.Option.{MatchOption-at_some}
use Rattle.plan_table.specs.Route.{Fleet, last_of, position, route_of}
use Rattle.mapf_rules.specs.ConflictList.{Stands}
use Rattle.mapf_rules.specs.Naming.{IsOfPair, IsPair, Names, time_of}
use Rattle.conflict_ledger.specs.Gathering.{Gathers, IsAgents, AreAgents, HasPlace, HasTime}
use Rattle.conflict_ledger.specs.declared.places.Place.{Place}
use Rattle.mapf_rules.specs.Finding.{Offers}
use Rattle.mapf_rules.specs.declared.entries.Conflict.{Conflict}
use Rattle.mapf_rules.specs.declared.entries.Conflict.TheVariants.{Cycle}

pub gathers_nothing : (fleet : Fleet) (agent : ℕ) (at : ℕ → Type 0) (old : List Conflict) → Gathers fleet agent at old old
gathers_nothing fleet agent at old = record { keeps = λ e h. h; only = λ e h. inl h }

pub gathers_on : (fleet : Fleet) (agent : ℕ) (at : ℕ → Type 0) (old mid new : List Conflict) → Gathers fleet agent at old mid → Gathers fleet agent at mid new → Gathers fleet agent at old new
gathers_on fleet agent at old mid new a b = grind (arith, nat_tests)

-- what is of certain times is of more
pub gathers_at : (fleet : Fleet) (agent : ℕ) (at more : ℕ → Type 0) (old new : List Conflict) → ((t : ℕ) → at t → more t) → Gathers fleet agent at old new → Gathers fleet agent more old new
gathers_at fleet agent at more old new into gathers = grind (arith, nat_tests)

-- what was there of a place is there still
pub place_on : (fleet : Fleet) (agent : ℕ) (at : ℕ → Type 0) (old new : List Conflict) → Gathers fleet agent at old new → (time : ℕ) (place : Place) → HasPlace fleet agent time place old → HasPlace fleet agent time place new
place_on fleet agent at old new gathers time place has other cell apart own there entry is then two _ met = gathers.keeps entry (has other cell apart own there entry is then two apart met)

pair_time : (entry : Conflict) (time first second : ℕ) → IsOfPair entry time first second → time_of entry ≡ time
pair_time (Cycle x r) time first second of = absurd of
pair_time entry time first second of = of.0

pair_names : (entry : Conflict) (time first second agent : ℕ) → IsOfPair entry time first second → (first ≡ agent) ⊎ (second ≡ agent) → IsPair entry × Names entry agent
pair_names (Cycle x r) time first second agent of who = absurd of
pair_names entry time first second agent of who = (tt, rw (of.1, of.2) who)

-- an entry of the pair, if it was found, is one of the agent's
pub gathers_offer : (fleet : Fleet) (agent time first second : ℕ) (old new : List Conflict) (found : Option Conflict) → (first ≡ agent) ⊎ (second ≡ agent) → IfSome found (Stands fleet) → IfSome found (λ entry. IsOfPair entry time first second) → Offers old new found → Gathers fleet agent (λ t. t ≡ time) old new
gathers_offer fleet agent time first second old new found who stands pair offers = record {
  keeps = offers.keeps;
  only = λ e h. elim (offers.only e h) [
    | inl before ↦ inl before
    | inr is ↦
        let of = MatchOption-at_some _ (λ (v : Conflict). IsOfPair v time first second) e is pair in
        let named = pair_names e time first second agent of who in
        inr (record { stands = MatchOption-at_some _ (Stands fleet) e is stands; pair = named.0; names = named.1 }, pair_time e time first second of)
  ];
}

-- a span of two tracks has no time after their end
before_end : (o : Option Tracks) (both : Tracks) (last t : ℕ) → o ≡ Some both → IfSome o (λ both. (time : ℕ) → last ≤ time → position (route_of both.old) time ≡ position (route_of both.new) time)
    → IfSome o (λ both. AreApartAt (route_of both.old) (route_of both.new) t ⊎ AreApartAt (route_of both.old) (route_of both.new) (t + 1)) → t ≤ last
before_end None both last t is same apart = absurd (cc)
before_end (Some both) other last t is same apart = grind (arith, nat_tests)

-- the entries gathered on the path, and after it where the span has no two tracks, are those of the span's times
module _ (fleet : Fleet) (agent : ℕ) (span : Span) (last : ℕ) (is_last : last ≡ last_of fleet agent) (fits : Fits span (last_of fleet agent)) (none path : List Conflict) (empty : none ≡ [])
    (gathers : Gathers fleet agent (λ t. IsIn span t × (t ≤ last)) none path) (has : (t : ℕ) → IsIn span t → t ≤ last → HasTime fleet agent t path) where
  on_path : (entry : Conflict) → Contains path entry → IsAgents fleet agent entry × IsIn span (time_of entry)
  on_path entry h = elim (gathers.only entry h) [ inl old ↦ absurd (Contains-nil entry (subst (λ (l : List Conflict). Contains l entry) empty old)) | inr is ↦ (is.0, is.1.0) ]

  pub gathered_apart : (both : Tracks) → span.tracks ≡ Some both → AreAgents fleet agent span path
  gathered_apart both is_apart = record {
    only = on_path;
    has = λ entry is inside. has (time_of entry) inside (omega (arith, is_last, before_end span.tracks both (last_of fleet agent) (time_of entry) is_apart fits.ends inside.apart)) entry is refl;
  }

  pub gathered_all : span.tracks ≡ None → (all : List Conflict) → Gathers fleet agent (λ t. last ≤ t) path all → ((t : ℕ) → last < t → HasTime fleet agent t all) → AreAgents fleet agent span all
  gathered_all endless all late has_late = record {
    only = λ entry h. elim (late.only entry h) [
      | inl early ↦ on_path entry early
      | inr is ↦ (is.0, record { not_before = omega (arith, is.1, fits.begins); apart = rw endless tt })
    ];
    has = λ entry is inside. elim (cases_lt last (time_of entry)) [
      | inl after ↦ has_late (time_of entry) after entry is refl
      | inr before ↦ late.keeps entry (has (time_of entry) inside (omega arith) entry is refl)
    ];
  }
