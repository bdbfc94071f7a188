use Rattle.std.proofs.Common.{Some, refl, subst}
use Rattle.std.proofs.lemmas.Result.{IfOk-weaker}
use Rattle.plan_table.specs.declared.plans.Row.{Row}
use Rattle.live_report.specs.Prices as priced
use Rattle.live_report.proofs.Rows.{renewed, in_place}
use Rattle.live_report.proofs.changing.reprice.Goals as goal

pub aim-requires-clause-stand : goal.aim-requires-clause-stand
aim-requires-clause-stand c = (c.in_ok-planned.ensures c.requires.know.0 c.requires.know.1 c.requires.know.2).fields

pub returns : goal.returns
returns c = IfOk-weaker c.aim.result _ _ (λ books kept rows are has.
    let planned : Row = record { goal = c.args.old.now.goal; plan = c.args.row.now.plan } in
    let aimed = kept (priced.with_row_in rows c.args.agent (Some planned)) planned (c.in_ok-planned.ensures rows are has) (in_place rows c.args.agent (Some planned)) refl in
    subst (λ (r : priced.Rows). priced.AreOfRows c.args.grid.now r books) (renewed rows c.args.agent (Some planned) (Some c.args.row.now)) aimed) c.aim.ensures.kept
