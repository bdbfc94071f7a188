use Rattle.std.proofs.Common.{ap, subst, arith}
use Rattle.std.proofs.lemmas.List.Sums.{sum_by_more}
use Rattle.std.proofs.lemmas.List.{take_all, drop_all}
use Rattle.plan_table.specs.Plans.{row_of}
use Rattle.plan_table.proofs.Order.{Contains-cons_head}
use Rattle.live_report.specs.Prices.{Rows, with_row_in}
use Rattle.live_report.specs.Books.{Keep}
use Rattle.live_report.specs.Following.{former_apart}
use Rattle.live_report.proofs.Leaving.{left_from, left_fewer, none_left}
use Rattle.live_report.proofs.books.Books.catch_up.Goals as goal

pub change-requires-clause-know : goal.change-requires-clause-know
change-requires-clause-know c =
    let more = left_from c.args.formers.now c.loop-former.former-index c.former-item.result (omega arith) c.former-item.is in
    let left = rw more at c.loop-former.invariant.left in
    record { rows = c.loop-former.invariant.rows; keep = c.loop-former.invariant.keep; has = left.was c.former-item.result (Contains-cons_head _ _) }

pub change-requires-clause-alike : goal.change-requires-clause-alike
change-requires-clause-alike c =
    let more = left_from c.args.formers.now c.loop-former.former-index c.former-item.result (omega arith) c.former-item.is in
    let left = rw more at c.loop-former.invariant.left in
    left.alike c.former-item.result (Contains-cons_head _ _)

pub loop-former-preserved : goal.loop-former-preserved
loop-former-preserved c =
    let more = left_from c.args.formers.now c.loop-former.former-index c.former-item.result (omega arith) c.former-item.is in
    let left = rw more at c.loop-former.invariant.left in
    let rows = c.loop-former.invariant.rows in
    let new = row_of c.args.scene.now.rows in
    let has = left.was c.former-item.result (Contains-cons_head _ _) in
    let apart = former_apart c.args.scene.now.mode c.args.scene.now.rows in
    record {
      rows = with_row_in rows c.former-item.result.agent (new c.former-item.result.agent);
      keep = c.in-Ok.ensures.kept rows c.loop-former.invariant.keep has;
      left = left_fewer rows new c.former-item.result _ left;
      touched =
          let more = sum_by_more apart c.args.formers.now c.loop-former.former-index c.former-item.result (omega arith) in
          let here = ap apart c.former-item.is in
          omega (arith, more, here, c.in-Ok.ensures.touched, c.loop-former.invariant.touched);
      follows = λ first tell. c.in-Ok.ensures.follows first (c.loop-former.invariant.follows first tell);
    }

pub returns-clause-kept : goal.returns-clause-kept
returns-clause-kept c =
    let left = rw (drop_all c.loop-former.former-index c.args.formers.now (omega arith)) at c.loop-former.invariant.left in
    subst (λ (r : Rows). Keep c.args.scene.now.mode c.args.scene.now.grid r c.loop-former.books) (none_left c.loop-former.invariant.rows (row_of c.args.scene.now.rows) left) c.loop-former.invariant.keep

pub returns-clause-touched : goal.returns-clause-touched
returns-clause-touched c =
    let apart = former_apart c.args.scene.now.mode c.args.scene.now.rows in
    rw (take_all c.loop-former.former-index c.args.formers.now (omega arith)) at c.loop-former.invariant.touched
