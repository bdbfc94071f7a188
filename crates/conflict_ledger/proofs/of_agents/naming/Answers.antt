use Rattle.std.proofs.Common.{◌≡◌, ◌∷◌, ◌++◌, [], take, sym, subst, arith}
use Rattle.std.proofs.lemmas.List.{take_all, take_more}
use Rattle.plan_table.specs.Route.{tracks_of}
use Rattle.conflict_ledger.specs.Named.{HasNamedOnes}
use Rattle.conflict_ledger.proofs.Named.{no_ones, one_more, listed_named}
use Rattle.conflict_ledger.proofs.of_agents.naming.Goals as goal

pub loop-agent-init : goal.loop-agent-init
loop-agent-init c = λ stands. rw c.new-entries.ensures.items (no_ones _)

pub loop-agent-preserved : goal.loop-agent-preserved
loop-agent-preserved c = λ stands.
    let agents = c.args.agents.now in
    let at = c.loop-agent.agent-index in
    rw (c.in_ok-append.ensures.items, take_more agents at c.agent-item.result c.loop-agent-test.true, ← c.agent-item.is)
    (one_more _ _ _ _ _ (c.loop-agent.invariant stands) (c.in_ok-named.ensures stands))

pub returns : goal.returns
returns c = λ stands. let has = c.loop-agent.invariant stands in listed_named _ _ _ _ (rw (take_all c.loop-agent.agent-index c.args.agents.now (omega arith)) at has) c.sorted.ensures
