use Rattle.desk_audit.proofs.audits.told.Goals as goal

pub whole_of-found-requires-clause-index : goal.whole_of-found-requires-clause-index
whole_of-found-requires-clause-index g c = rw c.deref.ensures.value (λ κs lives. c.in-Some.ensures)
