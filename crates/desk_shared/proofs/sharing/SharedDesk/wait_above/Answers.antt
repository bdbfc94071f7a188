use Rattle.desk_shared.proofs.Waiting.{raised_first, front_again, raised_again}
use Rattle.desk_shared.proofs.sharing.SharedDesk.wait_above.Goals as goal

pub loop-init : goal.loop-init
loop-init g c = (c.requires.owned, raised_first c.args.pass.now.known)

pub front-version-requires : goal.front-version-requires
front-version-requires g c = record { owned = c.loop.invariant.0 }

pub returns-then-version-seen-clause-answer : goal.returns-then-version-seen-clause-answer
returns-then-version-seen-clause-answer g c = front_again _ _ _ _ c.loop.invariant.1 c.front-version.ensures.answer

pub returns-in_default-clause-answer : goal.returns-in_default-clause-answer
returns-in_default-clause-answer g c = front_again _ _ _ _ c.loop.invariant.1 c.front-version.ensures.answer

pub loop-preserved : goal.loop-preserved
loop-preserved g c = (c.front-version.ensures.owned, raised_again _ _ _ _ c.loop.invariant.1 c.front-version.ensures.answer)
