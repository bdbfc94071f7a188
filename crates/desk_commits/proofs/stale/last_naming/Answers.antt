use Rattle.std.proofs.Common.{◌≡◌, ◌-◌, Some, refl, arith}
use Rattle.std.specs.Prelude.{IsTrue}
use Rattle.std.specs.List.{slice_get}
use Rattle.std.proofs.lemmas.Option.{slice_get_read}
use Rattle.desk_commits.proofs.Freshness.{fresh_before}
use Rattle.desk_commits.proofs.stale.last_naming.Goals as goal

pub loop-number-preserved : goal.loop-number-preserved
loop-number-preserved c =
    let there : slice_get c.args.journal.now (c.loop-number.number - 1) ≡ Some c.index-journal-number.result = slice_get_read c.args.journal.now _ (c.loop-number.number - 1) c.index-journal-number.result refl (omega arith) c.index-journal-number.is in
    record {
      within = omega arith;
      fresh = fresh_before c.args.journal.now c.args.thing.now c.loop-number.number c.index-journal-number.result (omega arith) there (λ named. let is : IsTrue c.names.result = c.names.ensures.1 named in cc) c.loop-number.invariant.fresh;
    }
