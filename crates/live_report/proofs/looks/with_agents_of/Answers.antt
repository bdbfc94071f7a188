use Rattle.std.proofs.Common.{◌≡◌, ◌+◌, [], ◌∷◌, ◌++◌, inl, take, sym, ap, subst, ◌∙◌, arith}
use Rattle.std.proofs.lemmas.List.{take_more, take_all}
use Rattle.plan_table.proofs.Order.{Contains-nil}
use Rattle.plan_table.proofs.Sets.{push_iff}
use Rattle.desk_report.specs.declared.reports.AgentLine.{AgentLine}
use Rattle.live_report.specs.Looks.{HasAgentsOf}
use Rattle.live_report.proofs.Looked.{has_more}
use Rattle.live_report.proofs.looks.with_agents_of.Goals as goal

pub loop-line-init : goal.loop-line-init
loop-line-init c = record { agents = λ agent h. h; lines = λ line h. absurd (Contains-nil line h) }

pub loop-line-preserved : goal.loop-line-preserved
loop-line-preserved c =
    let lines = c.items-line-items.result.now in
    let place = c.loop-line.line-index in
    let line = c.line-item.result in
    let more : take (place + 1) lines ≡ take place lines ++ line ∷ [] = take_more lines place line c.loop-line-test.true ∙ ap (λ e. take place lines ++ e ∷ []) (sym c.line-item.is) in record {
      agents = λ agent h. rw c.in_ok-push.ensures.items ((push_iff c.loop-line.agents.items line.agent agent).1 (inl (c.loop-line.invariant.agents agent h)));
      lines = rw (more, c.in_ok-push.ensures.items) (has_more (λ (l : AgentLine). l.agent) (take place lines) line c.loop-line.agents.items c.loop-line.invariant.lines);
    }

pub returns-clause-agents : goal.returns-clause-agents
returns-clause-agents c = c.loop-line.invariant.agents

pub returns-clause-lines : goal.returns-clause-lines
returns-clause-lines c =
    subst (λ ls. HasAgentsOf ls c.loop-line.agents.items) (take_all c.loop-line.line-index c.items-line-items.result.now (omega arith) ∙ c.items-line-items.ensures) c.loop-line.invariant.lines
