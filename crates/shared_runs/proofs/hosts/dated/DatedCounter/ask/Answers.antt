use Rattle.shared_runs.proofs.Seen.{asked_seen}
use Rattle.shared_runs.proofs.hosts.dated.DatedCounter.ask.Goals as goal

pub invariant_of-self : goal.invariant_of-self
invariant_of-self g c = asked_seen _ _ _ (λ desk. g.Q.Question.answers c.args.question.now desk c.ask-answer.result.0) c.ask-answer.ensures.0
