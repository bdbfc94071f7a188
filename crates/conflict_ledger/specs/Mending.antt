-- How what is kept follows a change of one agent's route: words for the ledger's own steps (this project's choice).
use Rattle.std.specs.Prelude.{◌≡◌, ℕ, Option, Some, None, List, Contains}
use Rattle.plan_table.specs.Path.{last_index}
use Rattle.plan_table.specs.Route.{Route, Fleet}
use Rattle.where_index.specs.Index.{Contents, StandsFor, with_route}
use Rattle.mapf_rules.specs.declared.entries.Conflict.{Conflict}
use Rattle.mapf_rules.specs.Naming.{time_of}
use Rattle.conflict_ledger.specs.Change.{SameBut}
use Rattle.conflict_ledger.specs.Gathering.{AreAgents}
use Rattle.conflict_ledger.specs.Kept.{HasEntries}
use Rattle.conflict_ledger.specs.Sight.{Shows}
use Rattle.conflict_ledger.specs.Spans.{Fits, HasEntriesIn, SameBeside}
use Rattle.conflict_ledger.specs.Turns.{IsLeft, IsToldAt}
use Rattle.conflict_ledger.specs.declared.changes.Share.{Share}
use Rattle.conflict_ledger.specs.declared.spans.Span.{Span}
use Rattle.conflict_ledger.specs.declared.turns.Turn.TheVariants.{Broken, Joined}

-- new has the entries of the fleet of the index, where that has the one route for the agent, and old those with the other one
abbrev pub KeepsUp : Contents → ℕ → Option Route → Option Route → List Conflict → List Conflict → Type 0
KeepsUp index agent was is old new = (fleet : Fleet) → StandsFor index fleet → fleet agent ≡ is → HasEntries old (with_route fleet agent was) → HasEntries new fleet

-- what an agent on the route has to do at the span's times with the entries of the fleets without it and with it: the entries
-- that name it, the rings of the others that its moves break, and those that it joins
pub record IsShare (out into : Fleet) (agent : ℕ) (route : Option Route) (span : Span) (entries broken joined : List Conflict) : Type 0 where
  pub are : AreAgents into agent span entries
  pub broken_only : (e : Conflict) → Contains broken e → IsLeft out route e × IsToldAt Broken entries agent (time_of e)
  pub broken_has : (e : Conflict) → IsLeft out route e → IsToldAt Broken entries agent (time_of e) → Contains broken e
  pub joined_only : (e : Conflict) → Contains joined e → IsLeft into route e × IsToldAt Joined entries agent (time_of e)
  pub joined_has : (e : Conflict) → IsLeft into route e → IsToldAt Joined entries agent (time_of e) → Contains joined e

-- and of all fleets that the index shows so
abbrev pub TellsShare : Contents → ℕ → Route → Span → Share → Type 0
TellsShare index agent route span share =
    (out into : Fleet) → Shows index agent None out → Shows index agent (Some route) into → Fits span (last_index route.path) → IsShare out into agent (Some route) span share.entries.items share.broken.items share.joined.items

-- at the span's times new has the entries of the fleet that the index shows with that route, and old those without it
abbrev pub MendsAsComes : Contents → ℕ → Route → Span → List Conflict → List Conflict → Type 0
MendsAsComes index agent route span old new =
    (before after : Fleet) → Shows index agent None before → Shows index agent (Some route) after → SameBut before after agent → Fits span (last_index route.path) → HasEntriesIn span old before → HasEntriesIn span new after

-- and the other way round
abbrev pub MendsAsGoes : Contents → ℕ → Route → Span → List Conflict → List Conflict → Type 0
MendsAsGoes index agent route span old new =
    (before after : Fleet) → Shows index agent (Some route) before → Shows index agent None after → SameBut after before agent → Fits span (last_index route.path) → HasEntriesIn span old before → HasEntriesIn span new after

-- of the entries at other times both have the same
abbrev pub LeavesBeside : Contents → ℕ → Route → Span → List Conflict → List Conflict → Type 0
LeavesBeside index agent route span old new = (fleet : Fleet) → Shows index agent (Some route) fleet → Fits span (last_index route.path) → SameBeside span old new

-- new is old with what comes with the agent whose share it is
abbrev pub Enters : Share → List Conflict → List Conflict → Type 0
Enters share old new =
    (index : Contents) (agent : ℕ) (route : Route) (span : Span) → TellsShare index agent route span share → MendsAsComes index agent route span old new × LeavesBeside index agent route span old new

-- new is old without what goes with the agent whose share it is
abbrev pub TakesOut : Share → List Conflict → List Conflict → Type 0
TakesOut share old new =
    (index : Contents) (agent : ℕ) (route : Route) (span : Span) → TellsShare index agent route span share → MendsAsGoes index agent route span old new × LeavesBeside index agent route span old new
