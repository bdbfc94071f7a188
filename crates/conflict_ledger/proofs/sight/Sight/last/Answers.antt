use Rattle.std.proofs.Common.{◌∙◌}
use mathlib.Core.Bool.{false≢true}
use Rattle.std.proofs.lemmas.Bool.{eq-eqb}
use Rattle.conflict_ledger.proofs.Sighted.{last_shown, last_not_shown}
use Rattle.conflict_ledger.proofs.sight.Sight.last.Goals as goal

pub returns-in-Some-end : goal.returns-in-Some-end
returns-in-Some-end c fleet shows = last_shown _ _ _ fleet shows c.args.agent (λ same. false≢true (c.if-eq.ensures ∙ eq-eqb _ _ same)) c.in-Some-end.end (c.in-Some-end.ensures shows.base shows.stands)

pub returns-in-None-end : goal.returns-in-None-end
returns-in-None-end c fleet shows = last_not_shown _ _ _ fleet shows c.args.agent (λ same. false≢true (c.if-eq.ensures ∙ eq-eqb _ _ same)) (c.in-None-end.ensures shows.base shows.stands)
