use Rattle.std.proofs.Common.{refl}
use Rattle.goal_fields.proofs.LastLemmas.{false≢true_at}
use Rattle.goal_fields.proofs.SearchLemmas.{IsSearch-begin, IsSearch-closed}
use Rattle.goal_fields.proofs.search.Search.begin.Goals as goal

pub returns-then-is_open-clause-searching : goal.returns-then-is_open-clause-searching
returns-then-is_open-clause-searching c =
    rw c.place_of-start.ensures.is (IsSearch-begin c.args.self.now.grid c.args.self.now.goal c.args.self.now.marks.items c.args.self.now.queue.items c.requires.room.sized (c.if-is_open.ensures.0 refl) c.requires.room.whole c.requires.room.one_mark_each c.requires.room.one_slot_each c.requires.blank)

pub returns-else-is_open-clause-searching : goal.returns-else-is_open-clause-searching
returns-else-is_open-clause-searching c =
    IsSearch-closed c.args.self.now.grid c.args.self.now.goal c.args.self.now.marks.items c.args.self.now.queue.items c.requires.room.sized c.requires.room.goal_held c.requires.room.whole c.requires.room.one_mark_each c.requires.room.one_slot_each c.requires.blank
    (λ o. false≢true_at refl (c.if-is_open.ensures.1 o))
