use Rattle.grid_cells.proofs.WalkLists.{walks_hold}
use Rattle.grid_cells.proofs.laws.walks_are_lists.Goals as goal

pub returns : goal.returns
returns c = walks_hold
