use Rattle.path_files.proofs.CellLemmas.{parts_are}
use Rattle.path_files.proofs.cells.closed.Goals as goal

pub returns-clause-parts : goal.returns-clause-parts
returns-clause-parts c = parts_are c.args.text.now c.cut.result c.cut.ensures
