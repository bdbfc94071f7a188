use Rattle.std.proofs.Common.{◌≡◌, ◌++◌, List, ℕ, Some, sym, ◌∙◌}
use Rattle.desk_report.proofs.Fronts.{err-of}
use Rattle.desk_log.proofs.Logging.{on-ok, on-err}
use Rattle.desk_log.proofs.keeping.LogKeeper.put_more.Goals as goal

pub returns-in_err-put_entries-clause-left : goal.returns-in_err-put_entries-clause-left
returns-in_err-put_entries-clause-left g c head before logged = err-of c.from_residual.result (record {
  leaves = λ left may. c.in_err-put_entries.ensures.left head before left logged.counts logged.text_is logged.kept_is may;
})

pub returns-clause-kept : goal.returns-clause-kept
returns-clause-kept g c head before logged =
    on-ok c.settle.result c.settle.ensures.kept (λ kept. record {
      counts = rw (c.settle.ensures.count, c.settle.ensures.check) (c.in_ok-put_entries.ensures.counted head before logged.counts);
      text_is = c.settle.ensures.same ∙ c.in_ok-put_entries.ensures.logged head before logged.counts logged.text_is;
      kept_is = kept;
    })

pub returns-clause-left : goal.returns-clause-left
returns-clause-left g c head before logged =
    on-err c.settle.result c.settle.ensures.failed (λ failed. record {
      leaves = λ left may. c.in_ok-put_entries.ensures.left head before left logged.counts logged.text_is logged.kept_is (rw (sym failed, sym c.settle.ensures.same) may);
    })
