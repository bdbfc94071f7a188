use Rattle.where_index.specs.Shown.{passing_of, IsPassing}
use Rattle.plan_table.proofs.Sets.{push_iff}
use Rattle.where_index.proofs.Gathered.{gathers_none, gathers_more, gathers_all, none_left}
use Rattle.where_index.proofs.gathering.gather_passings.Goals as goal

pub loop-spot-init : goal.loop-spot-init
loop-spot-init c = gathers_none IsPassing c.args.found.now.items c.args.spots _ c.into_iter-spot-iterator.ensures.into_iter_gives

pub loop-spot-preserved : goal.loop-spot-preserved
loop-spot-preserved c = gathers_more IsPassing _ _ _ c.args.spots _ _ c.in-Some.spot.now (passing_of c.in-Some.spot.now) c.in-Some.ensures.steps (λ x. ((λ h. h), (λ h. h))) c.loop-spot.invariant (λ p. rw c.in_ok-push.ensures.ok (push_iff c.loop-spot.found.items (passing_of c.in-Some.spot.now) p))

pub returns : goal.returns
returns c = gathers_all IsPassing _ _ c.args.spots _ (none_left IsPassing _ c.in-None.ensures.steps.0) c.loop-spot.invariant
