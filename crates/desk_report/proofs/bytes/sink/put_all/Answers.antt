use Rattle.std.proofs.Common.{rules, subst, sym}
use Rattle.std.proofs.Math.Seq.{take-add}
use Rattle.std.proofs.lemmas.List.{take_rest}
use Rattle.std.specs.Io.KnownBytes.{Appends}
use Rattle.std.proofs.KnownBytes.{Appends-trans}
use Rattle.desk_report.proofs.Fronts.{front-stop}
use Rattle.desk_report.proofs.bytes.sink.put_all.Goals as goal

pub loop-sent-preserved : goal.loop-sent-preserved
loop-sent-preserved g c =
    let bytes = c.args.bytes.now in
    let now = rw take_rest at c.in-Ok.ensures.bytes in
    record {
      within = search rules;
      out = subst (Appends _ _) (sym (take-add c.loop-sent.sent c.in-Ok.n bytes)) (Appends-trans _ _ _ _ _ c.loop-sent.invariant.out now);
      sound = search rules;
    }

pub returns-in-Err-clause-err : goal.returns-in-Err-clause-err
returns-in-Err-clause-err g c = front-stop _ _ _ c.args.bytes.now c.loop-sent.sent c.loop-sent.invariant.out c.in-Err.ensures.bytes
