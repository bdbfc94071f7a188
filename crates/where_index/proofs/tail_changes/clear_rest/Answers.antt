use Rattle.std.proofs.Common.{None, ap, ◌∙◌}
use Rattle.where_index.specs.Records.{hop, leg_between}
use Rattle.where_index.specs.Changes.{set_at}
use Rattle.where_index.proofs.Changes.{HasSpots-ext, set_same, clears}
use Rattle.where_index.proofs.tail_changes.clear_rest.Goals as goal

pub returns-in-Some : goal.returns-in-Some
returns-in-Some c = λ f has is. clears c.args.tails.now _ c.args.agent c.args.time (hop c.in-Some.cell c.in-Some.cell) f (rw c.rest.ensures at c.lose.ensures) has (is ∙ ap (λ o. leg_between o None) c.in-Some.is)

pub returns-in-None : goal.returns-in-None
returns-in-None c = λ f has is. HasSpots-ext c.args.tails.now f (set_at f c.args.agent c.args.time None) (set_same f c.args.agent c.args.time None (is ∙ ap (λ o. leg_between o None) c.in-None.is)) has
