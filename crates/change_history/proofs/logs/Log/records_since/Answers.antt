use Rattle.std.proofs.Common.{length, drop, sym, ap, ◌∙◌, arith}
use Rattle.change_history.specs.Logged.{joined}
use Rattle.change_history.proofs.Parts.{length_since}
use Rattle.change_history.proofs.logs.Log.records_since.Goals as goal

pub sum_from-requires : goal.sum_from-requires
sum_from-requires g c = omega (arith, c.self.invariant, c.self.inside.records.ok, c.self.inside.records.small)

pub returns : goal.returns
returns g c =
    c.sum_from.ensures ∙ sym (length_since c.self.inside.counts.items c.self.inside.records.items c.args.version c.self.invariant) ∙ ap (λ l. length (joined (drop c.args.version l))) c.self.view_is
