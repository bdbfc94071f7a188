use Rattle.std.proofs.Common.{arith, refl, ◌≡◌}
use Rattle.grid_cells.specs.Grid.{IsOpen}
use Rattle.goal_fields.specs.Lifelong.{g_of}
use Rattle.goal_fields.proofs.Neighbours.{up_of, left_of, right_of, down_of}
use Rattle.goal_fields.proofs.TakeLemmas.{least_of}
use Rattle.goal_fields.proofs.LastLemmas.{false≢true_at, same_eq}
use Rattle.goal_fields.proofs.UpdateLemmas.{IsThrough, IsRhs-least}
use Rattle.goal_fields.proofs.lifelong.Lifelong.equation.Goals as goal

pub returns : goal.returns
returns c =
    let is_open : IsOpen c.args.self.now.grid c.args.cell = c.if-not-is_open.ensures.0 refl in
    let not_goal : c.args.cell ≡ c.args.self.now.goal → ⊥ = (λ e. false≢true_at c.if-eq.ensures (same_eq c.args.cell c.args.self.now.goal e)) in
    let t1 : IsThrough c.args.self.now.grid (g_of c.args.self.now) (up_of c.args.self.now.grid.size c.args.cell) c.through.result = record { upper = rw c.around.ensures at c.through.ensures.upper; lower = rw c.around.ensures at c.through.ensures.lower } in
    let t2 : IsThrough c.args.self.now.grid (g_of c.args.self.now) (left_of c.args.self.now.grid.size c.args.cell) c.through-2.result = record { upper = rw c.around.ensures at c.through-2.ensures.upper; lower = rw c.around.ensures at c.through-2.ensures.lower } in
    let t3 : IsThrough c.args.self.now.grid (g_of c.args.self.now) (right_of c.args.self.now.grid.size c.args.cell) c.through-3.result = record { upper = rw c.around.ensures at c.through-3.ensures.upper; lower = rw c.around.ensures at c.through-3.ensures.lower } in
    let t4 : IsThrough c.args.self.now.grid (g_of c.args.self.now) (down_of c.args.self.now.grid.size c.args.cell) c.through-4.result = record { upper = rw c.around.ensures at c.through-4.ensures.upper; lower = rw c.around.ensures at c.through-4.ensures.lower } in
    IsRhs-least c.args.self.now.grid c.args.self.now.goal (g_of c.args.self.now) c.args.cell c.through.result c.through-2.result c.through-3.result c.through-4.result c.min-2.result is_open not_goal t1 t2 t3 t4
    (omega (arith, c.min-2.type_inv)) (grind arith) (grind arith) (grind arith) (grind arith) (least_of c.through.result c.through-2.result c.through-3.result c.through-4.result c.min-2.result (rw (← c.min-above.ensures, ← c.min.ensures) c.min-2.ensures))
