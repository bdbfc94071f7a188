use Rattle.std.proofs.Common.{◌≤◌, None, refl, sym, ap, ◌∙◌, arith}
use Rattle.grid_cells.specs.declared.numbers.TheConstants.{MOST_AGENT}
use Rattle.where_index.specs.Flows.{goes}
use Rattle.where_index.proofs.Flowing.{keeps, counts_less}
use Rattle.where_index.proofs.flows.lose_from.Goals as goal

pub returns-then-leads : goal.returns-then-leads
returns-then-leads c = λ f has is.
    let low : c.args.agent ≤ MOST_AGENT = omega (arith, c.number-number.ensures.is, c.number-number.ensures.bound) in
    counts_less c.args.way f c.args.agent c.args.time None _ _ low (ap (λ o. goes c.args.way o) is ∙ (sym c.leads.ensures ∙ c.if-leads.true)) refl c.lose.ensures.here c.lose.ensures.others has

pub returns-else-leads : goal.returns-else-leads
returns-else-leads c = λ f has is. keeps c.args.way f c.args.agent c.args.time None c.args.tally.now (ap (λ o. goes c.args.way o) is ∙ (sym c.leads.ensures ∙ c.if-leads.false)) has
