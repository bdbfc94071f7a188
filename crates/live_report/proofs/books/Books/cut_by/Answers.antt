use Rattle.std.proofs.Common.{◌≡◌, ℕ, List, subst, arith}
use Rattle.std.proofs.lemmas.Result.{IfOk-weaker}
use Rattle.plan_table.specs.Route.{tracks_of}
use Rattle.plan_table.specs.declared.plans.Row.{Row}
use Rattle.plan_table.proofs.OneTable.{one_table_holds}
use Rattle.plan_table.proofs.Order.{EachOf-length}
use Rattle.mapf_rules.specs.ConflictList.{AreConflicts, IsListed}
use Rattle.conflict_ledger.specs.Named.{AreNamed}
use Rattle.desk_report.specs.Cut.{IsCutOf}
use Rattle.live_report.specs.Rows.{HavePathsOn}
use Rattle.live_report.specs.Lines.{IsOpenLine, AreOpenLines}
use Rattle.live_report.proofs.books.Books.cut_by.Goals as goal

pub quick_cut-requires : goal.quick_cut-requires
quick_cut-requires c =
    let scene = c.args.scene.now in
    let same : c.requires.lines.table ≡ scene.rows = one_table_holds _ scene.rows c.requires.lines.by_agent c.plans-plans.ensures.scene.by_agent c.requires.lines.same in
    let are : AreOpenLines scene.grid scene.rows c.args.lines.now = subst (λ (t : List (ℕ × Row)). AreOpenLines scene.grid t c.args.lines.now) same c.requires.lines.are in
    omega (arith, EachOf-length (IsOpenLine scene.grid) scene.rows c.args.lines.now are, c.plans-plans.ensures.scene.few)

pub returns : goal.returns
returns c = IfOk-weaker c.quick_cut.result _ _ (λ cut is.
    let was = rw (← c.self.view_is) at c.requires.books in
    let scene = c.args.scene.now in
    let by_agent = c.plans-plans.ensures.scene.by_agent in
    let paths : HavePathsOn scene.grid scene.rows = λ agent row live. let on = c.plans-plans.ensures.scene.on_map agent row live in record { path_is = on.path; held = on.cells } in
    let rows : c.costs.result.now.rows ≡ scene.rows = rw c.costs.ensures (one_table_holds _ scene.rows was.prices.by_agent by_agent was.prices.rows) in
    let same : c.requires.lines.table ≡ scene.rows = one_table_holds _ scene.rows c.requires.lines.by_agent by_agent c.requires.lines.same in
    let lines : AreOpenLines scene.grid scene.rows c.args.lines.now = subst (λ (t : List (ℕ × Row)). AreOpenLines scene.grid t c.args.lines.now) same c.requires.lines.are in
    let listed : IsListed c.self.inside.fleet.conflicts = rw c.entries.ensures at c.has-listed.ensures.once in
    let entries : AreConflicts (tracks_of scene.mode scene.rows) c.self.inside.fleet.conflicts = record { ascending = listed; exact = was.fleet.entries } in
    let gives = rw (c.mode.ensures, c.plans-plans.ensures.rows) at c.in_ok-named.ensures in
    let named : AreNamed (tracks_of scene.mode scene.rows) c.args.agents.now c.in_ok-named.named = gives was.fleet in
    let told = is scene.grid scene.mode c.self.inside.fleet.conflicts (rw c.costs.ensures was.prices.costs) (rw rows lines) (rw rows paths) (rw rows entries) (rw rows named) in
    subst (λ (t : List (ℕ × Row)). IsCutOf scene.grid scene.mode t c.args.agents.now cut) rows told) c.quick_cut.ensures
