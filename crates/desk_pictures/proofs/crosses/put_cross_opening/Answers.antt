use Rattle.desk_pictures.specs.Marks.{cross_opening_text}
use Rattle.desk_pictures.proofs.crosses.put_cross_opening.Goals as goal

pub returns-clause-ok : goal.returns-clause-ok
unfolding cross_opening_text
returns-clause-ok g c = rw c.from-2.ensures at (rw c.from.ensures at (rw c.class_text.ensures at c.put_pieces.ensures.ok))
