use Rattle.solver_check.proofs.checks.json.findings.put_cells.Goals as goal

pub returns : goal.returns
returns g c = record {
  ok = rw (c.agent.ensures) at c.put_words.ensures.ok;
  err = rw (c.agent.ensures) at c.put_words.ensures.err;
  broken = c.put_words.ensures.broken;
}
