use Rattle.goal_fields.specs.Rest.{IsAtRest}
use Rattle.goal_fields.proofs.lifelong.Lifelong.mend_for.Goals as goal

pub mend-taken-requires-clause-roomy : goal.mend-taken-requires-clause-roomy
mend-taken-requires-clause-roomy c =
    let (_, size, _, rest) = c.requires.at_rest in
    record {
      sized = rw size at rest.sized;
      goal_held = rw size at rest.goal_held;
      whole = c.requires.whole;
      one_g_each = rw (c.swap.ensures.x_after, ← size) rest.one_g_each;
      queue = c.requires.idle.queue;
      one_key_each = c.requires.idle.one_key_each;
    }

pub mend-taken-requires-clause-consistent : goal.mend-taken-requires-clause-consistent
mend-taken-requires-clause-consistent c =
    let (old, size, covered, rest) = c.requires.at_rest in
    (old, size, covered, rw c.swap.ensures.x_after rest.consistent)

pub returns-clause-at_rest : goal.returns-clause-at_rest
returns-clause-at_rest c =
    let now = c.mend-taken.new.self in
    let settled = c.mend-taken.ensures.settled in
    let room = settled.roomy in
    let rest : IsAtRest now.grid now.goal now.g.items =
    record { sized = room.sized; goal_held = room.goal_held; whole = room.whole; one_g_each = room.one_g_each; consistent = settled.consistent } in
    rw (c.swap-2.ensures.y_after, ← c.mend-taken.ensures.kept.goal) rest
