use Rattle.desk_audit.proofs.audits.audit_alone.Goals as goal

pub part_of-found-requires-clause-index : goal.part_of-found-requires-clause-index
part_of-found-requires-clause-index c = rw c.deref.ensures.value (λ κs. c.in_ok-index.ensures)
