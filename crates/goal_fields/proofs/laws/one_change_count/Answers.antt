use Rattle.std.specs.Prelude.{slice_index_or}
use Rattle.std.proofs.Common.{◌≡◌, ℕ, ◌*◌, ◌<◌, List, Option, None, sym, ap, subst, ◌∙◌, inl, inr, arith}
use Rattle.std.proofs.lemmas.Bool.{cases_lt}
use Rattle.std.proofs.lemmas.List.{ext_get_or}
use Rattle.grid_cells.specs.Cell.{Point}
use Rattle.grid_cells.specs.Grid.{Chart}
use Rattle.grid_cells.proofs.Distance.{IsDistance-unique}
use Rattle.cell_queue.specs.Queue.{area}
use Rattle.goal_fields.specs.Changes.{AreDistances, change_count}
use Rattle.goal_fields.proofs.Neighbours.{cell_at}
use Rattle.goal_fields.proofs.laws.one_change_count.Goals as goal

-- a map has one list of distances to a goal
one_list : (grid : Chart) (goal : Point) (xs ys : List (Option ℕ)) → AreDistances grid goal xs → AreDistances grid goal ys → xs ≡ ys
one_list grid goal xs ys left right =
    ext_get_or None xs ys (left.one_each ∙ sym right.one_each) (λ i h.
    (let (c, held, at) = cell_at grid.size (wide (omega (arith, left.one_each))) i (omega (arith, left.one_each)) in
    subst (λ (n : ℕ). slice_index_or xs n None ≡ slice_index_or ys n None) at (IsDistance-unique grid c goal _ _ (left.right c held) (right.right c held))))
  where
    wide : 0 < area grid.size → 0 < grid.size.width
    wide some = elim (cases_lt 0 grid.size.width) [
      | inl lt ↦ lt
      | inr no_columns ↦ (let none : grid.size.width ≡ 0 = omega arith in let empty : area grid.size ≡ 0 * grid.size.height = ap (λ (w : ℕ). w * grid.size.height) none in absurd (omega (arith, empty)))
    ]

pub returns : goal.returns
returns c before after goal one other left right =
    let olds : left.olds ≡ right.olds = one_list before goal left.olds right.olds left.old_distances right.old_distances in
    let news : left.news ≡ right.news = one_list after goal left.news right.news left.new_distances right.new_distances in
    left.counted ∙ ap (λ (xs : List (Option ℕ)). change_count xs left.news) olds ∙ ap (λ (ys : List (Option ℕ)). change_count right.olds ys) news ∙ sym right.counted
