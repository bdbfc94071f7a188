use Rattle.std.proofs.Common.{◌≡◌, ◌+◌, ◌*◌, ◌<◌, ◌≤◌, [], ◌∷◌, ◌++◌, ℕ, Some}
use Rattle.std.specs.List.{slice_get}
use Rattle.grid_cells.specs.Cell.{Point}
use Rattle.grid_cells.specs.Size.{neighbours_of}
use Rattle.goal_fields.specs.AStar.{IsSeekingFrom, GathersCells, IsMetFrom, waiting}
use Rattle.goal_fields.proofs.frontier.Frontier.expand.Given as goal

abbrev pub invariant-loop-beside : goal.invariant-loop-beside
invariant-loop-beside l = record {
  around : l.beside-items ≡ neighbours_of l.fn.self.grid.size l.front;
  seeking : IsSeekingFrom l.self l.ends (l.self.now.items ++ l.front ∷ []);
  gathers : GathersCells l.fn.self l.self;
  few : waiting l.self ≤ waiting l.fn.self + 3 * l.beside-index;
  met : (k : ℕ) (cell : Point) → k < l.beside-index → slice_get l.beside-items k ≡ Some (Some cell) → IsMetFrom l.self l.ends l.front cell;
}
