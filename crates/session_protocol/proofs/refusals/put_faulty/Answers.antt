use Rattle.session_protocol.proofs.refusals.put_faulty.Goals as goal

pub returns-in-NotAStep : goal.returns-in-NotAStep
returns-in-NotAStep g c = rw c.in-NotAStep.is (record {
  ok = rw (c.from.ensures, c.as_bytes.ensures.value, c.fault_word.ensures, c.in-NotAStep.is) at c.put_words.ensures.ok;
  err = rw (c.from.ensures, c.as_bytes.ensures.value, c.fault_word.ensures, c.in-NotAStep.is) at c.put_words.ensures.err;
  broken = c.put_words.ensures.broken;
})
