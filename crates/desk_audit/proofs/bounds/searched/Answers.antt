use Rattle.desk_audit.proofs.Bounding.{held_at_start}
use Rattle.desk_audit.proofs.bounds.searched.Goals as goal

pub distance-found-requires-clause-start : goal.distance-found-requires-clause-start
distance-found-requires-clause-start c =
    let row = c.args.row.now in
    rw c.in_ok-search.ensures.made (held_at_start c.args.grid.now.size row.plan c.at-start.result c.requires.on_map.path c.requires.on_map.cells (rw c.new.ensures at c.at-start.ensures))
