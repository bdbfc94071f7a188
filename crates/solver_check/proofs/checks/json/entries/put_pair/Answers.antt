use Rattle.solver_check.proofs.checks.json.entries.put_pair.Goals as goal

pub returns : goal.returns
returns g c = record {
  ok = rw (c.time.ensures, c.agent.ensures, c.agent-2.ensures) at c.put_words.ensures.ok;
  err = rw (c.time.ensures, c.agent.ensures, c.agent-2.ensures) at c.put_words.ensures.err;
  broken = c.put_words.ensures.broken;
}
