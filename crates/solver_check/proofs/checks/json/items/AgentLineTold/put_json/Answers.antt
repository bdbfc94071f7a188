use Rattle.solver_check.proofs.checks.json.items.AgentLineTold.put_json.Goals as goal

pub returns : goal.returns
returns g c = record {
  ok = rw (c.agent.ensures, c.from.ensures, c.answer.ensures, c.given_short.ensures, c.given_short-2.ensures) at c.put_words.ensures.ok;
  err = rw (c.agent.ensures, c.from.ensures, c.answer.ensures, c.given_short.ensures, c.given_short-2.ensures) at c.put_words.ensures.err;
  broken = c.put_words.ensures.broken;
}
