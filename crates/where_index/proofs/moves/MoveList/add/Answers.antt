use Rattle.std.proofs.Common.{get_or}
use Rattle.std.proofs.lemmas.List.{get_or_default}
use Rattle.where_index.specs.declared.moves.Move.{Move}
use Rattle.where_index.proofs.Rising.{contains_insert, rises_insert}
use Rattle.where_index.proofs.moves.MoveList.add.Goals as goal

pub unreachable-requires : goal.unreachable-requires
unreachable-requires c =
    let at = rw c.as_slice.ensures.value at c.in-Ok.ensures.found in
    let absent = rw (← c.self.view_is) at c.requires in
    let place = c.in-Ok.field-0 in
    absent (get_or c.self.inside.moves.items place c.args.added) (place, at.within, get_or_default c.self.inside.moves.items place _ _ at.within) (at.has_agent c.args.added)

pub invariant_of-self-in-Err : goal.invariant_of-self-in-Err
invariant_of-self-in-Err c =
    let gap = rw c.as_slice.ensures.value at c.in-Err.ensures.absent in
    rw c.in_ok-insert-in-Err.ensures.items (rises_insert (λ (m : Move). m.agent) c.self.inside.moves.items c.in-Err.at c.args.added gap.within c.self.invariant gap.lesser_before gap.greater_after)

pub returns : goal.returns
returns c =
    let gap = rw c.as_slice.ensures.value at c.in-Err.ensures.absent in
    rw (← c.self.view_is) (rw c.in_ok-insert-in-Err.ensures.items (contains_insert (λ (m : Move). m.agent) c.self.inside.moves.items c.in-Err.at c.args.added gap.within))
