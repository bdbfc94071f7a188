use Rattle.std.proofs.Common.{◌≡◌, ◌+◌, [], ◌∷◌, ◌++◌, take, sym, ap, subst, ◌∙◌, arith}
use Rattle.std.proofs.lemmas.List.{take_more, take_all}
use Rattle.live_report.specs.Looks.{IsLook}
use Rattle.live_report.proofs.Looked.{look_none, look_more}
use Rattle.live_report.proofs.looks.look_at.Goals as goal

pub loop-agent-init : goal.loop-agent-init
loop-agent-init c = λ grid rows now. look_none grid rows _ c.new.ensures.items c.new-2.ensures.items

pub loop-agent-preserved : goal.loop-agent-preserved
loop-agent-preserved c =
    let agents = c.args.agents.now in
    let place = c.loop-agent.agent-index in
    let agent = c.agent-item.result in
    let more : take (place + 1) agents ≡ take place agents ++ agent ∷ [] = take_more agents place agent c.loop-agent-test.true ∙ ap (λ a. take place agents ++ a ∷ []) (sym c.agent-item.is) in
    λ grid rows now. subst (λ list. IsLook grid rows list c.add.new.self) (sym more) (look_more grid rows (take place agents) agent _ _ (c.loop-agent.invariant grid rows now) (c.in_ok-add.ensures grid rows now))

pub returns : goal.returns
returns c = λ grid rows now. subst (λ list. IsLook grid rows list c.loop-agent.look) (take_all c.loop-agent.agent-index c.args.agents.now (omega arith)) (c.loop-agent.invariant grid rows now)
