use Rattle.std.proofs.Common.{◌≡◌, ℕ, List, map, subst}
use Rattle.std.specs.Map.Iter.{deref_pair}
use Rattle.std.proofs.lemmas.List.{map-append}
use Rattle.std.proofs.lemmas.Map.Iter.{iter_end}
use Rattle.plan_table.specs.declared.plans.Row.{Row}
use Rattle.cost_ledger.proofs.Through.{AreOfEntries, entries_more, all_through}
use Rattle.cost_ledger.proofs.rows.Rows.through.Goals as goal

pub loop-agent-preserved : goal.loop-agent-preserved
loop-agent-preserved c = rw (map-append deref_pair c.loop-agent.yielded) (entries_more (map deref_pair c.loop-agent.yielded) c.in-Some.agent.now c.in-Some.row.now c.args.cell c.loop-agent.found.items c.add_through.new.found.items c.loop-agent.invariant c.in_ok-add_through.ensures)

pub returns : goal.returns
returns c =
    let given = c.into_iter-agent-iterator.ensures.into_iter_gives in
    let all : map deref_pair c.loop-agent.yielded ≡ c.self.inside.rows.entries = (iter_end deref_pair _ _ _ _ _ _ given.0 c.loop-agent.yielded_by c.in-None.is c.next.ensures.steps).0 in
    rw (← c.self.view_is) (all_through c.self.inside.rows c.args.cell c.loop-agent.found.items given.5 (subst (λ (entries : List (ℕ × Row)). AreOfEntries entries c.args.cell c.loop-agent.found.items) all c.loop-agent.invariant))
