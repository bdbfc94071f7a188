-- What a search beside one agent's track has gathered: words for the ledger's own steps (this project's choice).
use Rattle.std.specs.Prelude.{◌≡◌, ◌≢◌, ◌⊎◌, ℕ, ◌+◌, ◌<◌, ◌≤◌, Bool, true, false, Some, List, Contains, IsTrue}
use Rattle.grid_cells.specs.Cell.{Point}
use Rattle.plan_table.specs.Route.{Fleet, position_of, last_of, Leaves}
use Rattle.mapf_rules.specs.ConflictList.{Stands}
use Rattle.mapf_rules.specs.Naming.{IsPair, Names, time_of}
use Rattle.mapf_rules.specs.Finding.{KeepsAll}
use Rattle.conflict_ledger.specs.Sight.{Sees, IsWhere}
use Rattle.conflict_ledger.specs.declared.sight.Sight.{Sight}
use Rattle.conflict_ledger.specs.Spans.{IsIn, Fits}
use Rattle.conflict_ledger.specs.declared.spans.Span.{Span}
use Rattle.mapf_rules.specs.declared.entries.Conflict.{Conflict}
use Rattle.mapf_rules.specs.declared.entries.Conflict.TheVariants.{Vertex, Parked, Edge, Following, Swapping}
use Rattle.where_index.specs.Spots.{AreRising}
use Rattle.where_index.specs.declared.spot_sets.Spot.{Spot}
use Rattle.conflict_ledger.specs.declared.places.Place.{Place}
use Rattle.conflict_ledger.specs.declared.places.Stop.{Stop}
use Rattle.conflict_ledger.specs.declared.places.Place.TheVariants.{Beside, Ahead, Behind}

-- the entry is of two agents, stands, and names the agent
pub record IsAgents (fleet : Fleet) (agent : ℕ) (entry : Conflict) : Type 0 where
  pub stands : Stands fleet entry
  pub pair : IsPair entry
  pub names : Names entry agent

-- new has the entries of old, and others of the agent at times of which that is so
pub record Gathers (fleet : Fleet) (agent : ℕ) (at : ℕ → Type 0) (old new : List Conflict) : Type 0 where
  pub keeps : KeepsAll old new
  pub only : (entry : Conflict) → Contains new entry → Contains old entry ⊎ (IsAgents fleet agent entry × at (time_of entry))

-- the entries are those of the agent at the span's times
pub record AreAgents (fleet : Fleet) (agent : ℕ) (span : Span) (entries : List Conflict) : Type 0 where
  pub only : (entry : Conflict) → Contains entries entry → IsAgents fleet agent entry × IsIn span (time_of entry)
  pub has : (entry : Conflict) → IsAgents fleet agent entry → IsIn span (time_of entry) → Contains entries entry

-- the entries are those of the sight's agent at the span's times, where the span fits its path
abbrev pub AreOwn : Sight → Span → List Conflict → Fleet → Type 0
AreOwn sight span entries fleet = Fits span (last_of fleet sight.agent) → AreAgents fleet sight.agent span entries

-- what a spot tells of its agent, which it shows in the cell at the time: one that lasts, that the agent stays; another one,
-- that the agent still moves or is to leave, and where it goes, if that is another cell
pub record Tells (fleet : Fleet) (cell : Point) (lasting : Bool) (s : Spot) (time : ℕ) : Type 0 where
  pub there : position_of fleet s.step.agent time ≡ Some cell
  pub stays : lasting ≡ true → position_of fleet s.step.agent (time + 1) ≡ Some cell
  pub passes : lasting ≡ false → (time < last_of fleet s.step.agent) ⊎ Leaves fleet s.step.agent
  pub goes : lasting ≡ false → cell ≢ s.step.to → position_of fleet s.step.agent (time + 1) ≡ Some s.step.to

-- the spot shows its agent in that place, where one goes from here to the next cell in the step that begins at the time
abbrev pub IsNear : Place → Fleet → Bool → Spot → ℕ → Point → Point → Type 0
IsNear Beside fleet lasting s time here next = Tells fleet here lasting s time
IsNear Ahead fleet lasting s time here next = (here ≢ next) × Tells fleet next lasting s time
IsNear Behind fleet lasting s time here next = Tells fleet here lasting s (time + 1)

-- the stop is one of the agent's: it came from the cell before, if that is another one, and goes on to the next one
pub record IsStop (fleet : Fleet) (agent : ℕ) (stop : Stop) : Type 0 where
  pub came : stop.before ≢ stop.here → IsWhere fleet agent stop.past stop.before stop.here
  pub goes : IsWhere fleet agent stop.time stop.here stop.next

-- the step that begins at the time leads to the stop from elsewhere, or on from it, if that one is asked about
abbrev pub IsAbout : Stop → ℕ → Type 0
IsAbout stop time = ((time ≡ stop.past) × (stop.before ≢ stop.here)) ⊎ ((time ≡ stop.time) × IsTrue stop.goes)

-- the step that begins at one time leads to where the agent is at another, if it came by it, or on from there, if it goes by it
abbrev pub IsStepOf : ℕ → Bool → Bool → ℕ → Type 0
IsStepOf time came goes past = ((past + 1 ≡ time) × IsTrue came) ⊎ ((past ≡ time) × IsTrue goes)

-- when the step begins in which others are met at the stop in that place: ahead as one comes, else as one goes on
abbrev pub step_of : Stop → Place → ℕ
step_of stop Ahead = stop.past
step_of stop place = stop.time

-- where two meet in that place, in the step that begins at the time, the other one is in the cell at this time
abbrev pub seen_at : Place → ℕ → ℕ
seen_at Behind time = time + 1
seen_at place time = time

-- and the agent itself at this one
abbrev pub own_at : Place → ℕ → ℕ
own_at Ahead time = time + 1
own_at place time = time

-- the stop has that place: nobody is ahead of an agent that did not come from elsewhere; those beside it and behind it are
-- met as it goes on
abbrev pub IsPlaceOf : Stop → Place → Type 0
IsPlaceOf stop Ahead = stop.before ≢ stop.here
IsPlaceOf stop place = IsTrue stop.goes

-- the spot shows its agent at the time: one that lasts does so from its own time on
abbrev pub IsShown : Bool → Spot → ℕ → Type 0
IsShown true s time = s.time ≤ time
IsShown false s time = s.time ≡ time

-- the spot tells of its agent, if that is another one, whenever it shows it in the cell
abbrev pub IsShowing : Fleet → ℕ → Point → Bool → Spot → Type 0
IsShowing fleet agent cell lasting s = s.step.agent ≢ agent → (time : ℕ) → IsShown lasting s time → Tells fleet cell lasting s time

-- and so for each of the spots
abbrev pub AreShowing : Fleet → ℕ → Point → Bool → List Spot → Type 0
AreShowing fleet agent cell lasting spots = (s : Spot) → Contains spots s → IsShowing fleet agent cell lasting s

-- the agent meets the other one of the entry in that place
abbrev pub IsMet : Place → Conflict → ℕ → Type 0
IsMet Beside (Vertex time first second cell) agent = Unit {0}
IsMet Beside (Parked time first second cell) agent = Unit {0}
IsMet Beside (Edge time first second cell next) agent = Unit {0}
IsMet Ahead (Following time follower leader cell) agent = follower ≡ agent
IsMet Ahead (Swapping time first second cell other) agent = Unit {0}
IsMet Behind (Following time follower leader cell) agent = leader ≡ agent
IsMet place entry agent = ⊥

-- each entry of the agent at that time with the other one, whom it meets in that place, is there
abbrev pub HasMet : Fleet → ℕ → ℕ → Place → ℕ → List Conflict → Type 0
HasMet fleet agent time place other entries =
    (entry : Conflict) → IsAgents fleet agent entry → time_of entry ≡ time → Names entry other → other ≢ agent → IsMet place entry agent → Contains entries entry

-- so it is in each fleet that the sight shows in which its agent goes from here to the next cell in the step that begins at
-- the time, and the spot shows another one in that place
abbrev pub WhereMet : Sight → Place → Bool → Spot → ℕ → Point → Point → (Fleet → Type 0) → Type 0
WhereMet sight place lasting s time here next holds =
    (fleet : Fleet) → Sees sight fleet → IsWhere fleet sight.agent time here next → (s.step.agent ≢ sight.agent → IsNear place fleet lasting s time here next) → holds fleet

-- what is new there are entries of the agent in that step
abbrev pub GathersMet : Sight → Place → Bool → Spot → ℕ → Point → Point → List Conflict → List Conflict → Type 0
GathersMet sight place lasting s time here next old new = WhereMet sight place lasting s time here next (λ fleet. Gathers fleet sight.agent (λ t. t ≡ time) old new)

-- and each that it has with the one of the spot there is among them
abbrev pub HasAllMet : Sight → Place → Bool → Spot → ℕ → Point → Point → List Conflict → Type 0
HasAllMet sight place lasting s time here next entries = WhereMet sight place lasting s time here next (λ fleet. HasMet fleet sight.agent time place s.step.agent entries)

-- so it is in each fleet that the sight shows in which the stop is one of its agent's
abbrev pub WhereStops : Sight → Stop → (Fleet → Type 0) → Type 0
WhereStops sight stop holds = (fleet : Fleet) → Sees sight fleet → IsStop fleet sight.agent stop → holds fleet

-- and in which the spot shows its agent there
abbrev pub WhereShown : Sight → Stop → Bool → Spot → (Fleet → Type 0) → Type 0
WhereShown sight stop lasting s holds = WhereStops sight stop (λ fleet. IsShowing fleet sight.agent stop.here lasting s → holds fleet)

-- and in which each of the spots shows its agent there
abbrev pub WhereAllShown : Sight → Stop → Bool → List Spot → (Fleet → Type 0) → Type 0
WhereAllShown sight stop lasting spots holds = WhereStops sight stop (λ fleet. AreShowing fleet sight.agent stop.here lasting spots → holds fleet)

-- what is new are entries of the sight's agent in the steps about the stop
abbrev pub GathersAbout : Sight → Stop → List Conflict → List Conflict → Fleet → Type 0
GathersAbout sight stop old new fleet = Gathers fleet sight.agent (IsAbout stop) old new

-- each entry of the agent at the stop with the one whom the spot shows in that place is there
abbrev pub HasSeenIn : ℕ → Stop → Bool → Spot → Place → List Conflict → Fleet → Type 0
HasSeenIn agent stop lasting s place entries fleet =
    IsPlaceOf stop place → IsShown lasting s (seen_at place (step_of stop place)) → HasMet fleet agent (step_of stop place) place s.step.agent entries

-- and in whatever place it shows that one
abbrev pub HasSeen : Fleet → ℕ → Stop → Bool → List Conflict → Spot → Type 0
HasSeen fleet agent stop lasting entries s = (place : Place) → HasSeenIn agent stop lasting s place entries fleet

-- each entry of the agent at the stop with those whom the spots show is there
abbrev pub HasSeenSpots : Fleet → ℕ → Stop → Bool → List Spot → List Conflict → Type 0
HasSeenSpots fleet agent stop lasting spots entries = (s : Spot) → Contains spots s → HasSeen fleet agent stop lasting entries s

-- and so it is where they rise by their times
abbrev pub HasRising : Sight → Stop → Bool → List Spot → List Conflict → Fleet → Type 0
HasRising sight stop lasting spots entries fleet = AreRising spots → HasSeenSpots fleet sight.agent stop lasting spots entries

-- each entry of the agent at the stop is there
abbrev pub HasStop : Fleet → ℕ → Stop → List Conflict → Type 0
HasStop fleet agent stop entries =
    (place : Place) → IsPlaceOf stop place → (other : ℕ) → other ≢ agent → position_of fleet other (seen_at place (step_of stop place)) ≡ Some stop.here
    → HasMet fleet agent (step_of stop place) place other entries

-- each entry of the agent at that time with those whom it meets in that place is there
abbrev pub HasPlace : Fleet → ℕ → ℕ → Place → List Conflict → Type 0
HasPlace fleet agent time place entries =
    (other : ℕ) (cell : Point) → other ≢ agent → position_of fleet agent (own_at place time) ≡ Some cell → position_of fleet other (seen_at place time) ≡ Some cell
    → HasMet fleet agent time place other entries

-- so is each with those whom it meets in the cell where it is then: beside it, or behind it
abbrev pub HasHere : Fleet → ℕ → ℕ → List Conflict → Type 0
HasHere fleet agent time entries = (place : Place) → place ≢ Ahead → HasPlace fleet agent time place entries

-- each entry of two agents that names the agent, at that time, is there
abbrev pub HasTime : Fleet → ℕ → ℕ → List Conflict → Type 0
HasTime fleet agent time entries = (entry : Conflict) → IsAgents fleet agent entry → time_of entry ≡ time → Contains entries entry

-- each entry of the sight's agent with those ahead of it in the step that leads to the time is there
abbrev pub HasAhead : ℕ → ℕ → List Conflict → Fleet → Type 0
HasAhead agent time entries fleet = (past : ℕ) → past + 1 ≡ time → HasPlace fleet agent past Ahead entries

-- what is new are entries of the sight's agent at times of the span up to the last index, where the span begins by it
abbrev pub GathersUpTo : Sight → Span → ℕ → List Conflict → List Conflict → Fleet → Type 0
GathersUpTo sight span last old new fleet = span.from ≤ last → Gathers fleet sight.agent (λ t. IsIn span t × (t ≤ last)) old new

-- each entry of the sight's agent at those times is there
abbrev pub HasUpTo : Sight → Span → ℕ → List Conflict → Fleet → Type 0
HasUpTo sight span last entries fleet = last ≡ last_of fleet sight.agent → (time : ℕ) → IsIn span time → time ≤ last → HasTime fleet sight.agent time entries
