-- How a row is added to paths, cell by cell.
use Rattle.std.proofs.Common.{◌≡◌, ◌⊎◌, inl, inr, ℕ, ◌+◌, ◌-◌, ◌<◌, ◌≤◌, List, [], ◌∷◌, ◌++◌, length, length-take, length-append, length-set, take, get_or, refl, ap, sym, ◌∙◌, add-one, arith}
use Rattle.std.proofs.Math.Seq.{take-suc}
use Rattle.std.proofs.Math.ListN.{set}
use Rattle.grid_cells.specs.Cell.{Point}
use Rattle.path_files.specs.Rows.{paths_with_row}

-- a row makes no more paths than there may be, where it has no more cells
pub with_row_few : (most : ℕ) (paths : List (List Point)) (row : List Point) → length paths ≤ most → length row ≤ most → length (paths_with_row paths row) ≤ most
with_row_few most paths [] few cells = few
with_row_few most [] (cell ∷ row) few cells =
    let rest : length (paths_with_row [] row) ≤ most - 1 = with_row_few (most - 1) [] row (omega arith) (omega arith) in omega arith
with_row_few most (path ∷ paths) (cell ∷ row) few cells =
    let rest : length (paths_with_row paths row) ≤ most - 1 = with_row_few (most - 1) paths row (omega arith) (omega arith) in omega arith

-- a cell of an agent that has no path yet
pub with_row-begins : (paths : List (List Point)) (front : List Point) (cell : Point) → length front ≡ length (paths_with_row paths front) → paths_with_row paths (front ++ cell ∷ []) ≡ paths_with_row paths front ++ (cell ∷ []) ∷ []
with_row-begins [] [] cell same = refl
with_row-begins (path ∷ paths) [] cell same = absurd (omega arith)
with_row-begins [] (first ∷ front) cell same = ap (λ paths. (first ∷ []) ∷ paths) (with_row-begins [] front cell (omega arith))
with_row-begins (path ∷ paths) (first ∷ front) cell same = ap (λ paths. (path ++ first ∷ []) ∷ paths) (with_row-begins paths front cell (omega arith))

-- a cell of an agent that has one
pub with_row-goes_on : (paths : List (List Point)) (front : List Point) (cell : Point) (e : List Point) → length front < length (paths_with_row paths front) → paths_with_row paths (front ++ cell ∷ []) ≡ set (paths_with_row paths front) (length front) (get_or (paths_with_row paths front) (length front) e ++ cell ∷ [])
with_row-goes_on [] [] cell e low = absurd (omega arith)
with_row-goes_on (path ∷ paths) [] cell e low = refl
with_row-goes_on [] (first ∷ front) cell e low = ap (λ paths. (first ∷ []) ∷ paths) (with_row-goes_on [] front cell e (omega arith))
with_row-goes_on (path ∷ paths) (first ∷ front) cell e low = ap (λ paths. (path ++ first ∷ []) ∷ paths) (with_row-goes_on paths front cell e (omega arith))

-- a path that was put at the end as an empty one gets its first cell
begun : (paths : List (List Point)) (cell : Point) (e : List Point) → set (paths ++ [] ∷ []) (length paths) (get_or (paths ++ [] ∷ []) (length paths) e ++ cell ∷ []) ≡ paths ++ (cell ∷ []) ∷ []
begun [] cell e = refl
begun (path ∷ paths) cell e = ap (λ paths. path ∷ paths) (begun paths cell e)

-- the next cell of a row has come to the end of its path, where `room` are the paths with an empty one for an agent that had none
pub with_row-next : (paths items room : List (List Point)) (row : List Point) (agent : ℕ) (path : List Point) (cell : Point) → agent < length row → items ≡ paths_with_row paths (take agent row) → ((room ≡ items ++ [] ∷ []) × (agent ≡ length items)) ⊎ ((room ≡ items) × (agent < length items)) → path ≡ get_or room agent path → cell ≡ get_or row agent cell → set room agent (path ++ cell ∷ []) ≡ paths_with_row paths (take (agent + 1) row)
with_row-next paths items room row agent path cell within so_far (inl new) old next =
    let front : List Point = take agent row in
    let count : length front ≡ agent = omega (arith, length-take agent row) in
    let more : take (agent + 1) row ≡ front ++ cell ∷ [] = rw add-one (take-suc row agent cell within ∙ ap (λ cell. front ++ cell ∷ []) (sym next)) in
    let same : length front ≡ length (paths_with_row paths front) = count ∙ new.1 ∙ ap length so_far in
    ap (λ path. set room agent (path ++ cell ∷ [])) old
    ∙ ap (λ room. set room agent (get_or room agent path ++ cell ∷ [])) new.0
    ∙ ap (λ agent. set (items ++ [] ∷ []) agent (get_or (items ++ [] ∷ []) agent path ++ cell ∷ [])) new.1
    ∙ begun items cell path
    ∙ ap (λ items. items ++ (cell ∷ []) ∷ []) so_far
    ∙ sym (with_row-begins paths front cell same)
    ∙ ap (paths_with_row paths) (sym more)
with_row-next paths items room row agent path cell within so_far (inr there) old next =
    let front : List Point = take agent row in
    let count : length front ≡ agent = omega (arith, length-take agent row) in
    let more : take (agent + 1) row ≡ front ++ cell ∷ [] = rw add-one (take-suc row agent cell within ∙ ap (λ cell. front ++ cell ∷ []) (sym next)) in
    let low : length front < length (paths_with_row paths front) = omega (arith, count, there.1, ap length so_far) in
    ap (λ path. set room agent (path ++ cell ∷ [])) old
    ∙ ap (λ room. set room agent (get_or room agent path ++ cell ∷ [])) there.0
    ∙ ap (λ items. set items agent (get_or items agent path ++ cell ∷ [])) so_far
    ∙ ap (λ agent. set (paths_with_row paths front) agent (get_or (paths_with_row paths front) agent path ++ cell ∷ [])) (sym count)
    ∙ sym (with_row-goes_on paths front cell path low)
    ∙ ap (paths_with_row paths) (sym more)

-- and the next agent's path is there, or comes at the end
pub room-reaches : (items room : List (List Point)) (agent : ℕ) (path : List Point) → ((room ≡ items ++ [] ∷ []) × (agent ≡ length items)) ⊎ ((room ≡ items) × (agent < length items)) → agent + 1 ≤ length (set room agent path)
room-reaches items room agent path (inl new) = omega (arith, length-set room agent path, ap length new.0, length-append items ([] ∷ []), new.1)
room-reaches items room agent path (inr there) = omega (arith, length-set room agent path, ap length there.0, there.1)
