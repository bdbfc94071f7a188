use Rattle.std.specs.Prelude.{slice_index}
use Rattle.std.proofs.Common.{arith, sym, ap, ◌≡◌, ◌+◌, ◌<◌, ◌≤◌, length, inl, inr}
use Rattle.std.proofs.lemmas.List.{get_or_read}
use Rattle.grid_cells.specs.Cell.{Point, IsAdjacent}
use Rattle.goal_fields.specs.Search.{SearchesOn, IsMarking, front_of, mark_of}
use Rattle.goal_fields.specs.Marks.{far}
use Rattle.goal_fields.proofs.SearchLemmas.{mark_of-front, IsSearch-next, IsReached-later, GoesOn-trans}
use Rattle.goal_fields.proofs.Neighbours.{beside_cases}
use Rattle.goal_fields.proofs.search.Search.expand.Goals as goal

pub mark_up-requires : goal.mark_up-requires
mark_up-requires c =
    let s = c.args.self.now in
    let queue_in : s.head < length s.queue.items = omega (arith, c.requires.searching.one_slot_each, c.requires.searching.counted, c.requires.at_work) in
    let front : c.index-front.result.now ≡ front_of s = get_or_read s.queue.items s.head c.index-front.result.now queue_in c.index-front.ensures s.goal in
    let marks_in : c.place_of-at.result < length s.marks.items = omega (arith, c.requires.searching.one_mark_each, c.place_of-at.ensures.bound) in
    let read : c.index.result.now ≡ slice_index s.marks.items c.place_of-at.result = get_or_read s.marks.items c.place_of-at.result c.index.result.now marks_in c.index.ensures 0 in
    let same : mark_of s c.index-front.result.now ≡ c.index.result.now = rw (← c.place_of-at.ensures.is) (sym read) in
    record {
      searching = c.requires.searching;
      at_work = c.requires.at_work;
      turn = sym front;
      place = c.place_of-at.ensures.is;
      small = omega (arith, c.place_of-at.ensures.bound, c.requires.searching.sized.cells_most);
      next = omega (arith, same);
    }

pub returns-clause-searching : goal.returns-clause-searching
returns-clause-searching c =
    let now = c.mark_down.new.self in
    let number = c.index.result.now + 1 in
    let m : IsMarking now c.index-front.result.now c.place_of-at.result number = c.mark_down.ensures.marking in
    let same : mark_of now (front_of now) ≡ mark_of now c.index-front.result.now = ap (λ (v : Point). mark_of now v) m.turn in
    let small : number < far = omega (arith, m.next, mark_of-front now m.searching m.at_work) in
    let goes3 : SearchesOn c.mark_right.new.self now = c.mark_down.ensures.goes_on in
    let goes2 : SearchesOn c.mark_left.new.self now = GoesOn-trans c.mark_left.new.self c.mark_right.new.self now c.mark_right.ensures.goes_on goes3 in
    let goes1 : SearchesOn c.mark_up.new.self now = GoesOn-trans c.mark_up.new.self c.mark_left.new.self now c.mark_left.ensures.goes_on goes2 in
    IsSearch-next now.grid now.goal now.marks.items now.queue.items now.head now.tail m.searching m.at_work
    (λ n adjacent open_n.
    (let beside : IsAdjacent c.index-front.result.now n = rw (← m.turn) adjacent in
    let bound : mark_of now n ≤ number =
    elim (beside_cases c.index-front.result.now n beside) [
      | inl e ↦ IsReached-later c.mark_up.new.self now number n goes1 small (c.mark_up.ensures.reached n e.0 e.1) open_n
      | inr (inl e) ↦ IsReached-later c.mark_left.new.self now number n goes2 small (c.mark_left.ensures.reached n e.0 e.1) open_n
      | inr (inr (inl e)) ↦ IsReached-later c.mark_right.new.self now number n goes3 small (c.mark_right.ensures.reached n e.0 e.1) open_n
      | inr (inr (inr e)) ↦ c.mark_down.ensures.reached n e.0 e.1 open_n
    ] in
    omega (arith, bound, m.next, same)))
