-- A walk by the number of its steps is a walk as a list of cells.
use Rattle.std.proofs.Common.{◌≡◌, ℕ, zero, suc, ◌+◌, ◌-◌, List, [], ◌∷◌, length, Some, refl, sym, ap, subst, ◌∙◌, arith}
use Rattle.std.specs.List.{slice_get, AllAdjacentBelow, slice_index_or}
use Rattle.std.proofs.lemmas.Option.{same_Some}
use Rattle.std.proofs.lemmas.List.Elements.{All-cons, All-head, All-tail}
use Rattle.grid_cells.specs.Cell.{Point, IsAdjacent}
use Rattle.grid_cells.specs.Grid.{Chart, IsOpen}
use Rattle.grid_cells.specs.Walks.{Walk, IsWalk}
use Rattle.grid_cells.specs.Laws.{WalksAreLists}

adjacent-cons : (from next : Point) (rest : List Point) → IsAdjacent from next → AllAdjacentBelow IsAdjacent (next ∷ rest) (length (next ∷ rest)) → AllAdjacentBelow IsAdjacent (from ∷ next ∷ rest) (length (from ∷ next ∷ rest))
adjacent-cons from next rest near all zero d within = near
adjacent-cons from next rest near all (suc k) d within =
    let shift : suc (k + 1) ≡ suc k + 1 = omega arith in
    subst (λ q. IsAdjacent (slice_index_or (next ∷ rest) k d) (slice_index_or (from ∷ next ∷ rest) q d)) shift (all k d (omega arith))

adjacent-tail : (from next : Point) (rest : List Point) → AllAdjacentBelow IsAdjacent (from ∷ next ∷ rest) (length (from ∷ next ∷ rest)) → AllAdjacentBelow IsAdjacent (next ∷ rest) (length (next ∷ rest))
adjacent-tail from next rest all k d within =
    let shift : suc k + 1 ≡ suc (k + 1) = omega arith in
    subst (λ q. IsAdjacent (slice_index_or (next ∷ rest) k d) (slice_index_or (from ∷ next ∷ rest) q d)) shift (all (suc k) d (omega arith))

last-cons : (from next : Point) (rest : List Point) → slice_get (from ∷ next ∷ rest) (length (from ∷ next ∷ rest) - 1) ≡ slice_get (next ∷ rest) (length (next ∷ rest) - 1)
last-cons from next rest =
    let shift : length (from ∷ next ∷ rest) - 1 ≡ suc (length (next ∷ rest) - 1) = omega arith in
    ap (λ k. slice_get (from ∷ next ∷ rest) k) shift

-- the cells of a walk after its first one
rest_of : (grid : Chart) (steps : ℕ) (from to : Point) → Walk grid steps from to → (rest : List Point) × (length rest ≡ steps) × IsWalk grid from to (from ∷ rest)
rest_of grid zero from to walk = (
  [],
  refl,
  record {
    all_open = All-cons (IsOpen grid) from [] walk.0 (λ k d within. absurd (omega arith));
    adjacent = λ k d within. absurd (omega arith);
    begins = refl;
    ends = ap Some walk.1;
  },
)
rest_of grid (suc steps) from to walk =
    let next : Point = walk.1.0 in
    let rest = rest_of grid steps next to walk.1.2 in (
      next ∷ rest.0,
      ap suc rest.1,
      record {
        all_open = All-cons (IsOpen grid) from (next ∷ rest.0) walk.0 rest.2.all_open;
        adjacent = adjacent-cons from next rest.0 walk.1.1 rest.2.adjacent;
        begins = refl;
        ends = last-cons from next rest.0 ∙ rest.2.ends;
      },
    )

-- a list of cells that is a walk is one by the number of its steps
walk_of : (grid : Chart) (from to : Point) (rest : List Point) → IsWalk grid from to (from ∷ rest) → Walk grid (length rest) from to
walk_of grid from to [] walk = (All-head (IsOpen grid) from [] walk.all_open, same_Some from to walk.ends)
walk_of grid from to (next ∷ rest) walk =
    let later : IsWalk grid next to (next ∷ rest) = record {
      all_open = All-tail (IsOpen grid) from (next ∷ rest) walk.all_open;
      adjacent = adjacent-tail from next rest walk.adjacent;
      begins = refl;
      ends = sym (last-cons from next rest) ∙ walk.ends;
    } in
    (All-head (IsOpen grid) from (next ∷ rest) walk.all_open, (next, walk.adjacent 0 from (omega arith), walk_of grid next to rest later))

of_list : (grid : Chart) (steps : ℕ) (from to : Point) (cells : List Point) → length cells ≡ steps + 1 → IsWalk grid from to cells → Walk grid steps from to
of_list grid steps from to [] long walk = absurd (omega arith)
of_list grid steps from to (first ∷ rest) long walk =
    let same : first ≡ from = same_Some first from walk.begins in
    let count : length rest ≡ steps = omega arith in
    subst (λ n. Walk grid n from to) count (walk_of grid from to rest (subst (λ c. IsWalk grid from to (c ∷ rest)) same walk))

pub walks_hold : WalksAreLists
walks_hold grid steps from to = (
  (λ walk. let rest = rest_of grid steps from to walk in (from ∷ rest.0, omega (arith, rest.1), rest.2)),
  (λ walk. of_list grid steps from to walk.0 walk.1 walk.2),
)
