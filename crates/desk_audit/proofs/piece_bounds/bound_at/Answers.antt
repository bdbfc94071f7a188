use Rattle.plan_table.proofs.Fleets.{row_here}
use Rattle.desk_audit.proofs.piece_bounds.bound_at.Goals as goal

pub new-requires : goal.new-requires
new-requires c =
    let here = row_here _ c.count-agents.ensures.by_agent c.args.rank _ _ c.entry_at.ensures in
    (c.requires.on_map _ _ here.0).goal

pub note_bounds-requires-clause-on_map : goal.note_bounds-requires-clause-on_map
note_bounds-requires-clause-on_map c = rw c.in_ok-field.ensures c.requires.on_map

pub bound_by-requires-clause-on_map : goal.bound_by-requires-clause-on_map
bound_by-requires-clause-on_map c =
    let here = row_here _ c.count-agents.ensures.by_agent c.args.rank _ _ c.entry_at.ensures in
    rw c.in_ok-field.ensures (c.requires.on_map _ _ here.0)

pub searched-requires-clause-on_map : goal.searched-requires-clause-on_map
searched-requires-clause-on_map c =
    let here = row_here _ c.count-agents.ensures.by_agent c.args.rank _ _ c.entry_at.ensures in
    c.requires.on_map _ _ here.0
