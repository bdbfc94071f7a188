use Rattle.solver_check.proofs.checks.json.counts.put_totals.Goals as goal

pub returns : goal.returns
returns g c = record {
  ok = rw (c.given.ensures, c.given_short.ensures, c.given-2.ensures, c.given-3.ensures) at c.put_words.ensures.ok;
  err = rw (c.given.ensures, c.given_short.ensures, c.given-2.ensures, c.given-3.ensures) at c.put_words.ensures.err;
  broken = c.put_words.ensures.broken;
}
