use Rattle.std.proofs.Common.{◌≡◌, ℕ, List, subst, arith}
use Rattle.std.proofs.lemmas.Result.{IfOk-weaker}
use Rattle.plan_table.specs.Route.{tracks_of}
use Rattle.plan_table.specs.declared.plans.Row.{Row}
use Rattle.plan_table.proofs.OneTable.{one_table_holds}
use Rattle.plan_table.proofs.Order.{EachOf-length}
use Rattle.mapf_rules.specs.ConflictList.{AreConflicts}
use Rattle.desk_report.specs.Report.{IsReportOf}
use Rattle.live_report.specs.Rows.{HavePathsOn}
use Rattle.live_report.specs.Lines.{IsOpenLine, AreOpenLines}
use Rattle.live_report.proofs.books.Books.report_by.Goals as goal

pub quick_report-requires : goal.quick_report-requires
quick_report-requires c =
    let scene = c.args.scene.now in
    let same : c.requires.lines.table ≡ scene.rows = one_table_holds _ scene.rows c.requires.lines.by_agent c.plans-plans.ensures.scene.by_agent c.requires.lines.same in
    let are : AreOpenLines scene.grid scene.rows c.args.lines.now = subst (λ (t : List (ℕ × Row)). AreOpenLines scene.grid t c.args.lines.now) same c.requires.lines.are in
    omega (arith, EachOf-length (IsOpenLine scene.grid) scene.rows c.args.lines.now are, c.plans-plans.ensures.scene.few)

pub returns : goal.returns
returns c = IfOk-weaker c.quick_report.result _ _ (λ report is.
    let was = rw (← c.self.view_is) at c.requires.books in
    let scene = c.args.scene.now in
    let by_agent = c.plans-plans.ensures.scene.by_agent in
    let paths : HavePathsOn scene.grid scene.rows = λ agent row live. let on = c.plans-plans.ensures.scene.on_map agent row live in record { path_is = on.path; held = on.cells } in
    let rows : c.costs.result.now.rows ≡ scene.rows = rw c.costs.ensures (one_table_holds _ scene.rows was.prices.by_agent by_agent was.prices.rows) in
    let same : c.requires.lines.table ≡ scene.rows = one_table_holds _ scene.rows c.requires.lines.by_agent by_agent c.requires.lines.same in
    let lines : AreOpenLines scene.grid scene.rows c.args.lines.now = subst (λ (t : List (ℕ × Row)). AreOpenLines scene.grid t c.args.lines.now) same c.requires.lines.are in
    let conflicts : AreConflicts (tracks_of scene.mode scene.rows) c.in_ok-conflicts.conflicts = c.in_ok-conflicts.ensures (tracks_of scene.mode scene.rows) was.fleet in
    let told = is scene.grid scene.mode (rw c.costs.ensures was.prices.costs) (rw rows lines) (rw rows paths) (rw rows conflicts) in
    subst (λ (t : List (ℕ × Row)). IsReportOf scene.grid scene.mode t report) rows told) c.quick_report.ensures
