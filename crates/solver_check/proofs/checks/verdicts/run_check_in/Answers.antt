use Rattle.solver_check.proofs.checks.verdicts.run_check_in.Goals as goal

pub returns-in-Ok-put-clause-ok : goal.returns-in-Ok-put-clause-ok
returns-in-Ok-put-clause-ok g c = record {
  verdict = c.in-Ok.verdict;
  is = c.in-Ok.ensures.ok;
  answer = c.checked_of-checked.ensures;
  written =
      rw (c.is_quiet.ensures, c.counts_in-counts.ensures, c.set_style.ensures, c.has_rows_first.ensures, c.list.ensures) at c.in-Ok-put.ensures.ok;
}

pub returns-in-Err-put-clause-cut : goal.returns-in-Err-put-clause-cut
returns-in-Err-put-clause-cut g c = λ is-cut. record {
  verdict = c.in-Ok.verdict;
  is = c.in-Ok.ensures.ok;
  sent =
      rw (c.is_quiet.ensures, c.counts_in-counts.ensures, c.set_style.ensures, c.has_rows_first.ensures, c.list.ensures) at c.in-Err-put.ensures.err;
}
