use Rattle.std.proofs.Common.{◌≡◌, List, Contains, sym, subst, ◌∙◌}
use mathlib.Core.Logic.{◌↔◌}
use Rattle.mapf_rules.specs.declared.visits.Visit.{Visit}
use Rattle.cost_ledger.specs.Agents.{front_of}
use Rattle.cost_ledger.proofs.OfAgent.{found_from, front_is}
use Rattle.cost_ledger.proofs.agents.of_agent.Goals as goal

pub returns : goal.returns
returns c =
    let keys = c.args.blocked.now.keys in
    let is = found_from c.args.agent keys _ (rw c.least_of.ensures at (c.range.ensures.between tt)) in
    let same : front_of c.args.agent c.range.result ≡ c.new.result = sym c.in_ok-found.ensures ∙ sym c.new.ensures in
    λ visit. subst (λ (l : List Visit). Contains l visit ↔ (Contains keys visit × (visit.agent ≡ c.args.agent))) same (front_is c.args.agent keys _ is c.range.ensures.ordered visit)
