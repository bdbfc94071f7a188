use Rattle.std.proofs.Common.{◌≡◌, length, sym, ◌∙◌, inl, inr}
use mathlib.Core.Bool.{false≢true}
use Rattle.live_report.specs.Asked.{HasAnyAsked}
use Rattle.live_report.proofs.Deciding.{turned}
use Rattle.live_report.proofs.Verdicts.{kept_verdict}
use Rattle.live_report.proofs.judging.quick_solves.Goals as goal

pub returns-then-visits-eq0 : goal.returns-then-visits-eq0
returns-then-visits-eq0 c =
    let free = turned c.has_named-named.result (HasAnyAsked c.args.kinds c.args.conflicts.now) c.has_named-named.ensures.named in
    kept_verdict c.args.costs.now.rows c.args.conflicts.now c.args.costs.now.visits c.args.fields.now.fields c.unfinished-unfinished.result c.args.kinds c.unfinished-unfinished.ensures.is c.unfinished-unfinished.ensures.by_agent c.has_named-named.ensures.once c.count-goals.ensures.distances _
    ((λ is. (c.if-unfinished-eq0.true, sym c.visits-visits.ensures.is ∙ c.if-visits-eq0.true, free.0 is)), (λ all. free.1 all.2))

pub returns-else-unfinished-eq0 : goal.returns-else-unfinished-eq0
returns-else-unfinished-eq0 c =
    let wrong : c.unfinished-unfinished.result ≡ 0 → length c.args.costs.now.visits ≡ 0 → ⊥ = (λ finished unblocked. elim c.else-unfinished-eq0.either [ inl one ↦ one.1 (c.visits-visits.ensures.is ∙ unblocked) | inr other ↦ other finished ]) in
    kept_verdict c.args.costs.now.rows c.args.conflicts.now c.args.costs.now.visits c.args.fields.now.fields c.unfinished-unfinished.result c.args.kinds c.unfinished-unfinished.ensures.is c.unfinished-unfinished.ensures.by_agent c.has_named-named.ensures.once c.count-goals.ensures.distances _
    ((λ is. absurd (false≢true is)), (λ all. absurd (wrong all.0 all.1)))
