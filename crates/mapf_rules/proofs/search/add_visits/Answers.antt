use Rattle.std.proofs.Common.{inl, inr}
use Rattle.mapf_rules.proofs.Visiting.{key_before, adds_more}
use Rattle.mapf_rules.proofs.search.add_visits.Goals as goal

pub add_visit-requires-clause-below : goal.add_visit-requires-clause-below
add_visit-requires-clause-below c visit h =
    key_before visit c.args.agent c.loop-time.time (elim (c.loop-time.invariant.only visit h) [ inl in_old ↦ inl (c.requires.below visit in_old) | inr is ↦ inr (is.same_agent, is.early) ])

pub loop-time-preserved : goal.loop-time-preserved
loop-time-preserved c = adds_more _ _ _ _ _ _ _ c.loop-time.invariant c.in_ok-add_visit.ensures
