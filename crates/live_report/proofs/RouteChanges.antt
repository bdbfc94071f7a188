-- Fleets of which one route is given and taken back, and their books.
use Rattle.std.proofs.Common.{◌≡◌, ℕ, List, Bool, cond, Option, refl, sym, ap, subst, arith}
use Rattle.std.proofs.lemmas.Bool.{eq-eqb}
use Rattle.std.proofs.lemmas.Bool.Decides.{nat_tests}
use Rattle.std.proofs.lemmas.Grind.{common_steps}
use Rattle.std.proofs.lemmas.Option.{gets}
use Rattle.plan_table.specs.Route.{Route, Fleet}
use Rattle.where_index.specs.Index.{Contents, StandsFor, ChangesRoute, with_route}
use Rattle.conflict_ledger.specs.Kept.{HasEntries}
use Rattle.conflict_ledger.specs.Mending.{KeepsUp}
use Rattle.mapf_rules.specs.declared.entries.Conflict.{Conflict}
use Rattle.live_report.specs.Fleet.{FleetState, AreOfFleet}
use Rattle.live_report.specs.FleetLaws.{RoutesFixBooks}

-- fleets with the same route for each agent are one fleet
pub same_fleet : (one other : Fleet) → ((agent : ℕ) → one agent ≡ other agent) → one ≡ other
same_fleet one other same = λ i agent. same agent i

pub routes_fix : RoutesFixBooks
routes_fix one other books same are = subst (λ (fleet : Fleet). AreOfFleet fleet books) (same_fleet one other same) are

-- an agent's route put in place of another is the one that it has then
with_own : (fleet : Fleet) (agent : ℕ) (route : Option Route) → with_route fleet agent route agent ≡ route
with_own fleet agent route = ap (λ (b : Bool). cond b route (fleet agent)) (eq-eqb agent agent refl)

-- a route that is taken back leaves the fleet as it was
pub with_back : (fleet : Fleet) (agent : ℕ) (route was : Option Route) → fleet agent ≡ was → with_route (with_route fleet agent route) agent was ≡ fleet
with_back fleet agent route was is = grind (arith, nat_tests, common_steps, gets)

-- a fleet with the route that an agent has is that fleet
pub with_same : (fleet : Fleet) (agent : ℕ) (route : Option Route) → fleet agent ≡ route → with_route fleet agent route ≡ fleet
with_same fleet agent route is = grind (arith, nat_tests, common_steps, gets)

-- the entries of a fleet are those of the same fleet after a route was given and taken back
entries_back : (kept : List Conflict) (fleet : Fleet) (agent : ℕ) (route was : Option Route) → fleet agent ≡ was → HasEntries kept fleet → HasEntries kept (with_route (with_route fleet agent route) agent was)
entries_back kept fleet agent route was is has = subst (λ (f : Fleet). HasEntries kept f) (sym (with_back fleet agent route was is)) has

-- books of a fleet are those of the fleet with the route that an agent has
pub are_same : (books : FleetState) (fleet : Fleet) (agent : ℕ) (route : Option Route) → fleet agent ≡ route → AreOfFleet fleet books → AreOfFleet (with_route fleet agent route) books
are_same books fleet agent route is are = subst (λ (f : Fleet). AreOfFleet f books) (sym (with_same fleet agent route is)) are

-- books follow an agent to another route where their index does, and then their entries
pub follow_route : (agent : ℕ) (before after : Option Route) (index moved : Contents) (kept mended : List Conflict) → ChangesRoute index moved agent before after → KeepsUp moved agent before after kept mended → (fleet : Fleet) → StandsFor index fleet → HasEntries kept fleet → fleet agent ≡ before → AreOfFleet (with_route fleet agent after) (record { index = moved; conflicts = mended })
follow_route agent before after index moved kept mended moves keeps fleet stands has is =
    let there = moves fleet stands is in
    record { index = there; entries = keeps (with_route fleet agent after) there (with_own fleet agent after) (entries_back kept fleet agent after before is has) }
