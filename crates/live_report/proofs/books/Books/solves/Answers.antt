use Rattle.std.proofs.Common.{◌≡◌, ℕ, List, subst, refl}
use Rattle.plan_table.specs.declared.plans.Row.{Row}
use Rattle.plan_table.proofs.OneTable.{one_table_holds}
use Rattle.desk_report.specs.Solves.{IsVerdict}
use Rattle.live_report.specs.Rows.{HaveFields, HavePathsOn}
use Rattle.live_report.proofs.books.Books.solves.Goals as goal

pub returns : goal.returns
returns c =
    let was = rw (← c.self.view_is) at c.requires in
    let scene = c.args.scene.now in
    let rows : c.costs.result.now.rows ≡ scene.rows = rw c.costs.ensures (one_table_holds _ scene.rows was.prices.by_agent c.plans-plans.ensures.scene.by_agent was.prices.rows) in
    let paths : HavePathsOn scene.grid scene.rows = λ agent row live. let on = c.plans-plans.ensures.scene.on_map agent row live in record { path_is = on.path; held = on.cells } in
    let fields : HaveFields scene.rows c.fields.result.now.fields = λ agent row live. rw c.fields.ensures ((was.prices.goals row.goal).1 (agent, record { row = row; live = live; aims = refl })) in
    let told = c.quick_solves.ensures scene.grid scene.mode (rw (rows, c.entries.ensures) was.fleet.entries) (rw c.costs.ensures was.prices.costs) (rw c.fields.ensures was.prices.fields) (rw rows fields) (rw rows paths) in
    subst (λ (table : List (ℕ × Row)). IsVerdict scene.grid scene.mode table c.args.kinds c.quick_solves.result) rows told
