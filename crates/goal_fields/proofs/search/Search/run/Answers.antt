use Rattle.goal_fields.specs.Search.{}
use Rattle.goal_fields.proofs.SearchEnds.{IsDistance-marked}
use Rattle.goal_fields.proofs.search.Search.run.Goals as goal

pub returns-clause-found : goal.returns-clause-found
returns-clause-found c =
    record {
      room = record {
        sized = c.loop-self.invariant.searching.sized;
        goal_held = c.loop-self.invariant.searching.goal_held;
        whole = c.loop-self.invariant.searching.whole;
        one_mark_each = c.loop-self.invariant.searching.one_mark_each;
        one_slot_each = c.loop-self.invariant.searching.one_slot_each;
      };
      right = IsDistance-marked c.loop-self.self.grid c.loop-self.self.goal c.loop-self.self.marks.items c.loop-self.self.queue.items c.loop-self.self.head c.loop-self.self.tail c.loop-self.invariant.searching c.loop-self-test.false;
      bounded = c.loop-self.invariant.searching.bounded;
    }
