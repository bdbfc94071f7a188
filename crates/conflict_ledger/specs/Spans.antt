-- The times at which a change of one route can change entries: words for the ledger's own steps (this project's choice).
use Rattle.std.specs.Prelude.{◌≡◌, ◌≢◌, ◌⊎◌, ◌↔◌, ℕ, ◌+◌, ◌<◌, ◌≤◌, List, Contains, IfSome}
use Rattle.plan_table.specs.Path.{last_index}
use Rattle.plan_table.specs.Route.{Route, Fleet, position, route_of}
use Rattle.mapf_rules.specs.ConflictList.{Stands}
use Rattle.mapf_rules.specs.Naming.{time_of}
use Rattle.mapf_rules.specs.declared.entries.Conflict.{Conflict}
use Rattle.conflict_ledger.specs.declared.spans.Span.{Span}

-- the two routes are at different places at the time
abbrev pub AreApartAt : Route → Route → ℕ → Type 0
AreApartAt old new time = position old time ≢ position new time

-- the time is one of the span's: where two tracks end alike, one at which they are apart, or one step before such a one
pub record IsIn (span : Span) (time : ℕ) : Type 0 where
  pub not_before : span.from ≤ time
  pub apart : IfSome span.tracks (λ both. AreApartAt (route_of both.old) (route_of both.new) time ⊎ AreApartAt (route_of both.old) (route_of both.new) (time + 1))

-- the span begins by that last index, and its two tracks, if it has them, are never apart from it on
pub record Fits (span : Span) (last : ℕ) : Type 0 where
  pub begins : span.from ≤ last
  pub ends : IfSome span.tracks (λ both. (time : ℕ) → last ≤ time → position (route_of both.old) time ≡ position (route_of both.new) time)

-- the two routes are the same in the step that begins at the time: both go on after it, or both end alike
pub record AreSameAt (old new : Route) (time : ℕ) : Type 0 where
  pub now : position old time ≡ position new time
  pub later : position old (time + 1) ≡ position new (time + 1)
  pub ends : ((time < last_index old.path) × (time < last_index new.path)) ⊎ ((last_index old.path ≡ last_index new.path) × (old.leaves ≡ new.leaves))

-- the entries kept at the span's times are exactly those that stand in the fleet
abbrev pub HasEntriesIn : Span → List Conflict → Fleet → Type 0
HasEntriesIn span kept fleet = (entry : Conflict) → IsIn span (time_of entry) → Contains kept entry ↔ Stands fleet entry

-- of the entries at other times both have the same
abbrev pub SameBeside : Span → List Conflict → List Conflict → Type 0
SameBeside span old new = (entry : Conflict) → (IsIn span (time_of entry) → ⊥) → Contains new entry ↔ Contains old entry
