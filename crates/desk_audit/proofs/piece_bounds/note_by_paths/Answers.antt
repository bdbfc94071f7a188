use Rattle.plan_table.proofs.Fleets.{row_here}
use Rattle.desk_audit.proofs.piece_bounds.note_by_paths.Goals as goal

pub note_by_path-requires-clause-on_map : goal.note_by_path-requires-clause-on_map
note_by_path-requires-clause-on_map c =
    let here = row_here _ c.count-agents.ensures.by_agent c.loop-rank.rank _ _ c.entry_at.ensures in
    c.requires.on_map _ _ here.0
