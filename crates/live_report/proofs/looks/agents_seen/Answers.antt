use Rattle.std.proofs.Common.{◌≡◌, ◌+◌, [], ◌∷◌, ◌++◌, take, sym, ap, subst, ◌∙◌, arith}
use Rattle.std.proofs.lemmas.List.{take_more, take_all}
use Rattle.std.proofs.lemmas.Result.{IfOk-weaker}
use Rattle.plan_table.proofs.Order.{Contains-nil}
use Rattle.scene_edits.specs.declared.named_agents.Former.{Former}
use Rattle.live_report.specs.Looks.{HasFormers}
use Rattle.live_report.proofs.Looked.{has_more}
use Rattle.live_report.proofs.looks.agents_seen.Goals as goal

pub loop-former-init : goal.loop-former-init
loop-former-init c = λ former h. absurd (Contains-nil former h)

pub loop-former-preserved : goal.loop-former-preserved
loop-former-preserved c =
    let formers = c.args.formers.now in
    let place = c.loop-former.former-index in
    let former = c.former-item.result in
    let more : take (place + 1) formers ≡ take place formers ++ former ∷ [] = take_more formers place former c.loop-former-test.true ∙ ap (λ e. take place formers ++ e ∷ []) (sym c.former-item.is) in
    rw (more, c.in_ok-push.ensures.items) (has_more (λ (f : Former). f.agent) (take place formers) former c.loop-former.agents.items c.loop-former.invariant)

pub returns-then-is_empty-clause-formers : goal.returns-then-is_empty-clause-formers
returns-then-is_empty-clause-formers c = subst (λ fs. HasFormers fs c.loop-former.agents.items) (take_all c.loop-former.former-index c.args.formers.now (omega arith)) c.loop-former.invariant

pub returns-clause-formers : goal.returns-clause-formers
returns-clause-formers c =
    let has : HasFormers c.args.formers.now c.loop-former.agents.items = subst (λ fs. HasFormers fs c.loop-former.agents.items) (take_all c.loop-former.former-index c.args.formers.now (omega arith)) c.loop-former.invariant in
    IfOk-weaker c.with_agents_of.result _ _ (λ all agents former among. agents former.agent (has former among)) c.with_agents_of.ensures.agents

pub returns-clause-lines : goal.returns-clause-lines
returns-clause-lines c = IfOk-weaker c.with_agents_of.result _ _ (λ all lines some. lines) c.with_agents_of.ensures.lines
