use Rattle.solver_check.proofs.checks.json.entries.put_time.Goals as goal

pub returns : goal.returns
returns g c = record {
  ok = rw (c.time.ensures) at c.put_words.ensures.ok;
  err = rw (c.time.ensures) at c.put_words.ensures.err;
  broken = c.put_words.ensures.broken;
}
