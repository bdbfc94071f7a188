use Rattle.where_index.specs.declared.moves.Move.{Move}
use Rattle.where_index.proofs.Rising.{contains_remove, rises_remove}
use Rattle.where_index.proofs.moves.MoveList.lose.Goals as goal

pub invariant_of-self : goal.invariant_of-self
invariant_of-self c =
    let place = rw c.as_slice.ensures.value at c.in-Ok.ensures.found in
    rw c.remove.ensures.items (rises_remove (λ (m : Move). m.agent) c.self.inside.moves.items c.in-Ok.at place.within c.self.invariant)

pub returns-in-Ok : goal.returns-in-Ok
returns-in-Ok c =
    let place = rw c.as_slice.ensures.value at c.in-Ok.ensures.found in
    rw (← c.self.view_is) (rw c.remove.ensures.items (contains_remove (λ (m : Move). m.agent) c.self.inside.moves.items c.in-Ok.at place.within c.self.invariant c.args.agent place.has_agent))
