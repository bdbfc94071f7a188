use Rattle.std.proofs.Common.{refl, arith}
use Rattle.std.proofs.lemmas.Result.{IfOk-weaker}
use Rattle.std.proofs.lemmas.Bool.Decides.{nat_tests}
use Rattle.std.proofs.lemmas.Grind.{common_steps}
use Rattle.std.proofs.lemmas.Option.{gets}
use Rattle.live_report.proofs.books.Books.take_lines.Goals as goal

pub of-requires : goal.of-requires
of-requires c = λ agent row live.
    let was = rw (← c.self.view_is) at c.requires in
    rw c.fields.ensures ((was.prices.goals row.goal).1 (agent, record { row = row; live = rw c.plans.ensures.rows at live; aims = refl }))

pub returns-in-Some-clause-lines : goal.returns-in-Some-clause-lines
returns-in-Some-clause-lines c = grind (arith, nat_tests, common_steps, gets)

pub returns-clause-lines : goal.returns-clause-lines
returns-clause-lines c = IfOk-weaker c.of.result _ _ (λ lines are.
    let was = rw (← c.self.view_is) at c.requires in
    let scene = c.args.scene.now in
    record { table = scene.rows; by_agent = c.plans.ensures.scene.by_agent; same = λ agent. refl; are = rw c.plans.ensures.rows at (are scene.grid (rw c.fields.ensures was.prices.fields)) }) c.of.ensures
