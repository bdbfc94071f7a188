use Rattle.solver_check.proofs.checks.json.items.VisitTold.put_json.Goals as goal

pub returns : goal.returns
returns g c = record {
  ok = rw (c.agent.ensures, c.time.ensures) at c.put_words.ensures.ok;
  err = rw (c.agent.ensures, c.time.ensures) at c.put_words.ensures.err;
  broken = c.put_words.ensures.broken;
}
