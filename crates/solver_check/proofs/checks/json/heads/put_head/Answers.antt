use Rattle.solver_check.proofs.checks.json.heads.put_head.Goals as goal

pub returns : goal.returns
returns g c = record {
  ok = rw (c.answer.ensures, c.says_yes.ensures, c.verdict_name.ensures, c.answer-2.ensures, c.answer-3.ensures, c.answer-4.ensures, c.answer-5.ensures, c.answer-6.ensures) at c.put_words.ensures.ok;
  err = rw (c.answer.ensures, c.says_yes.ensures, c.verdict_name.ensures, c.answer-2.ensures, c.answer-3.ensures, c.answer-4.ensures, c.answer-5.ensures, c.answer-6.ensures) at c.put_words.ensures.err;
  broken = c.put_words.ensures.broken;
}
