use Rattle.std.proofs.Common.{rules}
use Rattle.desk_report.proofs.Fronts.{err-of}
use Rattle.desk_report.proofs.Lines.{front-item}
use Rattle.journal_text.proofs.RouteLines.{appends-item, all-item}
use Rattle.journal_text.proofs.written.put_each.Goals as goal

pub returns-in_err-put_into-clause-err : goal.returns-in_err-put_into-clause-err
returns-in_err-put_into-clause-err g c =
    err-of c.from_residual.result (front-item g.T.Written.text c.args.list.now _ _ _ c.loop-item.item-index c.item-item.result c.item-item.is c.loop-item-test.true c.loop-item.invariant.out c.in_err-put_into.ensures.err)

pub loop-item-preserved : goal.loop-item-preserved
loop-item-preserved g c = record {
  out = appends-item g.T.Written.text c.args.list.now _ _ _ c.loop-item.item-index c.item-item.result c.item-item.is c.loop-item-test.true c.loop-item.invariant.out c.in_ok-put_into.ensures.ok;
  lawful = all-item g.T.Written.lawful c.args.list.now c.loop-item.item-index c.item-item.result c.item-item.is c.loop-item-test.true c.loop-item.invariant.lawful c.in_ok-put_into.ensures.lawful;
  sound = search rules;
}
