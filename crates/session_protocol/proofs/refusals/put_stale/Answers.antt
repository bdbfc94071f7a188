use Rattle.session_protocol.proofs.refusals.put_stale.Goals as goal

pub returns-in-Agent : goal.returns-in-Agent
returns-in-Agent g c = rw c.in-Agent.is (record { ok = rw c.agent.ensures at c.put_words.ensures.ok; err = rw c.agent.ensures at c.put_words.ensures.err; broken = c.put_words.ensures.broken })

pub returns-in-Cell : goal.returns-in-Cell
returns-in-Cell g c = rw c.in-Cell.is (record { ok = c.put_words-in-Cell.ensures.ok; err = c.put_words-in-Cell.ensures.err; broken = c.put_words-in-Cell.ensures.broken })

pub returns-in-Map : goal.returns-in-Map
returns-in-Map g c = rw c.in-Map.is (record { ok = c.put_words-in-Map.ensures.ok; err = c.put_words-in-Map.ensures.err; broken = c.put_words-in-Map.ensures.broken })
