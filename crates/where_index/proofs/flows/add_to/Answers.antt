use Rattle.std.proofs.Common.{◌≤◌, Some, sym, ap, ◌∙◌, arith}
use Rattle.grid_cells.specs.declared.numbers.TheConstants.{MOST_AGENT}
use Rattle.where_index.specs.Flows.{goes}
use Rattle.where_index.proofs.Flowing.{keeps, counts_more}
use Rattle.where_index.proofs.flows.add_to.Goals as goal

pub returns-in_ok-add : goal.returns-in_ok-add
returns-in_ok-add c = λ f has is.
    let low : c.args.agent ≤ MOST_AGENT = omega (arith, c.number-number.ensures.is, c.number-number.ensures.bound) in
    counts_more c.args.way f c.args.agent c.args.time (Some c.args.hop.now) _ _ _ (omega arith) low (ap (λ o. goes c.args.way o) is) (sym c.leads.ensures ∙ c.if-leads.true) c.in_ok-add.ensures.here c.in_ok-add.ensures.others has

pub returns-else-leads : goal.returns-else-leads
returns-else-leads c = λ f has is. keeps c.args.way f c.args.agent c.args.time (Some c.args.hop.now) c.args.tally.now (ap (λ o. goes c.args.way o) is ∙ (sym c.if-leads.false ∙ c.leads.ensures)) has
