use Rattle.std.proofs.Common.{ap, ◌∙◌}
use Rattle.change_history.specs.Logged.{parts}
use Rattle.change_history.proofs.Parts.{parts_forgotten, sum_forgotten}
use Rattle.change_history.proofs.logs.Log.forget.Goals as goal

pub invariant_of-self : goal.invariant_of-self
invariant_of-self g c =
    rw c.drop_front.ensures (sum_forgotten c.self.inside.counts.items c.pop_front.new.self.items c.self.inside.records.items c.unwrap_or-count.result _ c.self.inside.counts.ok.0 c.pop_front.result c.pop_front.ensures.items c.unwrap_or-count.ensures c.self.invariant)

pub returns : goal.returns
returns g c =
    ap (parts c.pop_front.new.self.items) c.drop_front.ensures
    ∙ parts_forgotten c.self.inside.counts.items c.pop_front.new.self.items c.self.inside.records.items c.unwrap_or-count.result _ c.self.inside.counts.ok.0 c.pop_front.result _ c.pop_front.ensures.items c.pop_front.ensures.variant c.unwrap_or-count.ensures c.self.view_is
