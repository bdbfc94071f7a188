use Rattle.desk_pictures.specs.Marks.{opening_text}
use Rattle.desk_pictures.proofs.marks.put_opening.Goals as goal

pub returns-clause-ok : goal.returns-clause-ok
unfolding opening_text
returns-clause-ok g c = rw c.from-2.ensures at (rw c.from.ensures at c.put_pieces.ensures.ok)
