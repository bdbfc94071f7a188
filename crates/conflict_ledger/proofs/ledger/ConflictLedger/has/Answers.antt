use Rattle.std.proofs.Common.{◌≡◌, true, sym, ◌∙◌, rules}
use mathlib.Core.Logic.{◌↔◌}
use mathlib.Core.Bool.{false≢true}
use denote.Enum.Bare.{same_true, true_same}
use Rattle.mapf_rules.specs.ConflictList.{kind_of}
use Rattle.mapf_rules.specs.contracts.entries.Kind.{the_type}
use Rattle.mapf_rules.proofs.Orders.{entries_ascend}
use Rattle.conflict_ledger.proofs.KindOrder.{none_of_kind, told_by_first}
use Rattle.conflict_ledger.proofs.ledger.ConflictLedger.has.Goals as goal

pub returns-in-Some-clause-has : goal.returns-in-Some-clause-has
returns-in-Some-clause-has c =
    let means : (c.eq.result ≡ true) ↔ (kind_of c.in-Some.entry.now ≡ c.args.kind) = (
      (λ yes. sym c.kind.ensures ∙ same_true the_type (search rules) c.kind.result c.args.kind (sym c.eq.ensures ∙ yes)),
      (λ same. c.eq.ensures ∙ true_same the_type c.kind.result c.args.kind (c.kind.ensures ∙ same)),
    ) in
    rw (← c.self.view_is) (told_by_first c.self.inside.kept c.args.kind c.least_of.result c.least_of.ensures c.range.result (c.range.ensures.in_range (search rules)) c.in-Some.entry.now c.next.new.self c.in-Some.ensures.steps c.eq.result means)

pub returns-in-Some-clause-once : goal.returns-in-Some-clause-once
returns-in-Some-clause-once c = rw (← c.self.view_is) (entries_ascend c.self.inside.kept.keys c.range.ensures.ordered)

pub returns-in-None-clause-has : goal.returns-in-None-clause-has
returns-in-None-clause-has c = rw (← c.self.view_is) (
  (λ wrong. absurd (false≢true wrong)),
  (λ has. absurd (none_of_kind c.self.inside.kept c.args.kind c.least_of.result c.least_of.ensures c.range.result (c.range.ensures.in_range (search rules)) c.in-None.ensures.steps.0 has)),
)

pub returns-in-None-clause-once : goal.returns-in-None-clause-once
returns-in-None-clause-once c = rw (← c.self.view_is) (entries_ascend c.self.inside.kept.keys c.range.ensures.ordered)
