use Rattle.std.proofs.Common.{◌≡◌, ℕ, List, refl, sym, subst}
use Rattle.plan_table.specs.Route.{tracks_of}
use Rattle.plan_table.specs.declared.plans.Row.{Row}
use Rattle.plan_table.proofs.OneTable.{one_table_holds}
use Rattle.mapf_rules.specs.ConflictList.{AreConflicts, IsListed}
use Rattle.mapf_rules.specs.Costs.{AreCosts}
use Rattle.mapf_rules.specs.Visits.{AreVisits}
use Rattle.goal_fields.specs.Held.{HaveDistances}
use Rattle.live_report.specs.Rows.{HaveFields, HavePathsOn}
use Rattle.live_report.proofs.ReportThere.{report_there}
use Rattle.live_report.proofs.Verdicts.{all_ready}
use Rattle.live_report.proofs.books.Books.report_is_there.Goals as goal

pub returns : goal.returns
returns c =
    let was = rw (← c.self.view_is) at c.requires in
    let scene = c.args.scene.now in
    let books = c.self.inside in
    let by_agent = c.plans-plans.ensures.scene.by_agent in
    let rows : books.prices.costs.rows ≡ scene.rows = one_table_holds _ scene.rows was.prices.by_agent by_agent was.prices.rows in
    let on : HavePathsOn scene.grid scene.rows = λ agent row live. let is = c.plans-plans.ensures.scene.on_map agent row live in record { path_is = is.path; held = is.cells } in
    let aims : HaveFields scene.rows books.prices.fields = λ agent row live. (was.prices.goals row.goal).1 (agent, record { row = row; live = live; aims = refl }) in
    let far : HaveDistances books.prices.fields = rw c.fields.ensures at c.count-goals.ensures.distances in
    let listed : IsListed books.fleet.conflicts = rw c.entries.ensures at c.has-listed.ensures.once in
    let entries : AreConflicts (tracks_of scene.mode scene.rows) books.fleet.conflicts = record { ascending = listed; exact = was.fleet.entries } in
    let blocked : AreVisits scene.grid scene.rows books.prices.costs.visits = subst (λ (t : List (ℕ × Row)). AreVisits scene.grid t books.prices.costs.visits) rows was.prices.costs in
    let unfinished = rw c.costs.ensures at c.unfinished-unfinished.ensures.is in
    let priced : AreCosts scene.rows unfinished.0 = subst (λ (t : List (ℕ × Row)). AreCosts t unfinished.0) rows unfinished.1 in
    report_there scene.grid scene.mode scene.rows books.fleet.conflicts books.prices.costs.visits unfinished.0 entries blocked priced
    (all_ready scene.grid scene.rows books.prices.costs.visits books.prices.fields by_agent blocked was.prices.fields far aims on)
