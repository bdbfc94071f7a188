-- The path of a list of cells: the same places, no wait at the end, and no other list is so.
use Rattle.std.proofs.Common.{◌≡◌, ◌≢◌, ℕ, zero, suc, ◌+◌, ◌-◌, ◌<◌, min, true, false, if◌then◌else◌, List, [], ◌∷◌, length, get_or, take, Some, inl, inr, refl, sym, ap, subst, ◌∙◌, arith}
use Rattle.std.specs.List.{slice_get}
use Rattle.std.proofs.lemmas.Bool.{cases_order}
use Rattle.std.proofs.lemmas.Bool.Decides.{nat_tests}
use Rattle.std.proofs.lemmas.List.{same_lists}
use Rattle.std.proofs.lemmas.Option.{same_Some, slice_get-get_or, gets}
use Rattle.std.proofs.lemmas.Grind.{common_steps}
use Rattle.grid_cells.specs.Cell.{Point}
use Rattle.plan_table.specs.Path.{place, IsWalkable, EndsInWait, IsPath, IsPathOf}
use Rattle.plan_table.specs.Route.{is_cell}
use Rattle.scene_edits.specs.Paths.{led_by, path_of}
use Rattle.scene_edits.specs.Laws.{OnePath}

-- equal cells, by the test on cells
pub is_cell-same : (a b : Point) → is_cell (Some a) b ≡ true → a ≡ b
is_cell-same a b pass = grind (arith, nat_tests, common_steps, gets)

pub is_cell-other : (a b : Point) → is_cell (Some a) b ≡ false → a ≢ b
is_cell-other a b fail same = grind (arith, nat_tests, fail, same)

-- a path is at its first cell first
pub place-first : (cell : Point) (rest : List Point) → place (cell ∷ rest) zero ≡ Some cell
place-first cell rest = let first : min 0 (length (cell ∷ rest) - 1) ≡ 0 = omega arith in rw first refl

-- the places of a path with one more cell before it
pub place-cons : (cell next : Point) (rest : List Point) (time : ℕ) → place (cell ∷ next ∷ rest) (suc time) ≡ place (next ∷ rest) time
place-cons cell next rest time = grind (arith, nat_tests, common_steps, gets)

pub place-led_zero : (cell : Point) (path : List Point) → place (led_by cell path) zero ≡ Some cell
place-led_zero cell [] = refl
place-led_zero cell (next ∷ []) =
    elim (is_cell (Some next) cell) as (λ b. place (if b then cell ∷ [] else cell ∷ next ∷ []) zero ≡ Some cell) [ true ↦ refl | false ↦ refl ]
place-led_zero cell (next ∷ later ∷ rest) = place-first cell (next ∷ later ∷ rest)

pub place-led : (cell next : Point) (rest : List Point) (time : ℕ) → place (led_by cell (next ∷ rest)) (suc time) ≡ place (next ∷ rest) time
place-led cell next [] time =
    elim (is_cell (Some next) cell) as (λ b. is_cell (Some next) cell ≡ b → place (if b then cell ∷ [] else cell ∷ next ∷ []) (suc time) ≡ place (next ∷ []) time) [
      | true ↦ λ pass.
          let early : min (suc time) (length (cell ∷ []) - 1) ≡ 0 = omega arith in
          let first : min time (length (next ∷ []) - 1) ≡ 0 = omega arith in
          rw (early, first) (ap Some (sym (is_cell-same next cell pass)))
      | false ↦ λ fail. place-cons cell next [] time
    ] refl
place-led cell next (later ∷ rest) time = place-cons cell next (later ∷ rest) time

-- a path from a first cell on has a first cell
pub led_by-some : (cell : Point) (path : List Point) → 0 < length (led_by cell path)
led_by-some cell [] = omega arith
led_by-some cell (next ∷ []) = elim (is_cell (Some next) cell) as (λ b. 0 < length (if b then cell ∷ [] else cell ∷ next ∷ [])) [ true ↦ omega arith | false ↦ omega arith ]
led_by-some cell (next ∷ later ∷ rest) = omega arith

place-led_some : (cell : Point) (path : List Point) → 0 < length path → (time : ℕ) → place (led_by cell path) (suc time) ≡ place path time
place-led_some cell [] some time = absurd (omega arith)
place-led_some cell (next ∷ rest) some time = place-led cell next rest time

pub place-path_of : (cells : List Point) (time : ℕ) → place (path_of cells) time ≡ place cells time
place-path_of [] time = refl
place-path_of (cell ∷ []) time = refl
place-path_of (cell ∷ next ∷ rest) zero = place-led_zero cell (path_of (next ∷ rest)) ∙ sym (place-first cell (next ∷ rest))
place-path_of (cell ∷ next ∷ rest) (suc time) =
    place-led_some cell (path_of (next ∷ rest)) (led_by-some next (path_of rest)) time
    ∙ place-path_of (next ∷ rest) time
    ∙ sym (place-cons cell next rest time)

-- no wait at the end
pub led_by-no_wait : (cell : Point) (path : List Point) → (EndsInWait path → ⊥) → EndsInWait (led_by cell path) → ⊥
led_by-no_wait cell [] none (k, two, same) = omega arith
led_by-no_wait cell (next ∷ []) none wait =
    elim (is_cell (Some next) cell) as (λ b. is_cell (Some next) cell ≡ b → EndsInWait (if b then cell ∷ [] else cell ∷ next ∷ []) → ⊥) [
      | true ↦ λ pass (k, two, same). omega arith
      | false ↦ λ fail (k, two, same).
          let first : k ≡ 0 = omega arith in
          let equal : Some cell ≡ Some next = subst (λ k. slice_get (cell ∷ next ∷ []) k ≡ slice_get (cell ∷ next ∷ []) (k + 1)) first same in
          is_cell-other next cell fail (sym (same_Some cell next equal))
    ] refl wait
led_by-no_wait cell (next ∷ later ∷ rest) none (zero, two, same) = omega arith
led_by-no_wait cell (next ∷ later ∷ rest) none (suc k, two, same) = none (k, omega arith, same ∙ ap (slice_get (cell ∷ next ∷ later ∷ rest)) (let e : suc k + 1 ≡ suc (k + 1) = omega arith in e))

pub path_of-no_wait : (cells : List Point) → EndsInWait (path_of cells) → ⊥
path_of-no_wait [] (k, two, same) = omega arith
path_of-no_wait (cell ∷ rest) wait = led_by-no_wait cell (path_of rest) (path_of-no_wait rest) wait

-- the path is the first cells of the list
led_by-take : (cell : Point) (path rest : List Point) (n : ℕ) → path ≡ take n rest → (m : ℕ) × (led_by cell path ≡ take m (cell ∷ rest))
led_by-take cell [] rest n is = (1, refl)
led_by-take cell (next ∷ []) rest n is =
    elim (is_cell (Some next) cell) as (λ b. (m : ℕ) × ((if b then cell ∷ [] else cell ∷ next ∷ []) ≡ take m (cell ∷ rest))) [
      | true ↦ (1, refl)
      | false ↦ (suc n, ap (λ (p : List Point). cell ∷ p) is)
    ]
led_by-take cell (next ∷ later ∷ more) rest n is = (suc n, ap (λ (p : List Point). cell ∷ p) is)

pub path_of-take : (cells : List Point) → (n : ℕ) × (path_of cells ≡ take n cells)
path_of-take [] = (0, refl)
path_of-take (cell ∷ rest) = let (n, is) = path_of-take rest in led_by-take cell (path_of rest) rest n is

pub take-walkable : (cells : List Point) (n : ℕ) → 0 < length (take n cells) → IsWalkable cells → IsWalkable (take n cells)
take-walkable cells n some walks = grind (arith, nat_tests, common_steps, gets)

path_of-some : (cells : List Point) → 0 < length cells → 0 < length (path_of cells)
path_of-some [] some = absurd (omega arith)
path_of-some (cell ∷ rest) some = led_by-some cell (path_of rest)

pub path_of-path : (cells : List Point) → IsWalkable cells → IsPathOf cells (path_of cells)
path_of-path cells walks =
    let (n, is) = path_of-take cells in
    record {
      same = place-path_of cells;
      ends = record {
        walkable = subst IsWalkable (sym is) (take-walkable cells n (subst (λ (p : List Point). 0 < length p) is (path_of-some cells walks.some_cell)) walks);
        no_wait = path_of-no_wait cells;
      };
    }

-- one of two paths with the same places that is the longer one ends in a wait
no_longer : (p q : List Point) → ((time : ℕ) → place p time ≡ place q time) → 0 < length p → (EndsInWait q → ⊥) → length p < length q → ⊥
no_longer p q same some no_wait longer =
    let k : ℕ = length q - 2 in
    let rests : place p k ≡ place p (k + 1) = ap (slice_get p) (let e : min k (length p - 1) ≡ min (k + 1) (length p - 1) = omega arith in e) in
    let here : min k (length q - 1) ≡ k = omega arith in
    let next : min (k + 1) (length q - 1) ≡ k + 1 = omega arith in
    let wait : place q k ≡ place q (k + 1) = sym (same k) ∙ rests ∙ same (k + 1) in
    no_wait (k, omega arith, ap (slice_get q) (sym here) ∙ wait ∙ ap (slice_get q) next)

-- at times of the path the place is the cell at that index
place-within : (p : List Point) (k : ℕ) (d : Point) → k < length p → place p k ≡ Some (get_or p k d)
place-within p k d within = let here : min k (length p - 1) ≡ k = omega arith in rw here (slice_get-get_or p k d within)

pub paths-equal : (p q : List Point) → IsPath p → IsPath q → ((time : ℕ) → place p time ≡ place q time) → p ≡ q
paths-equal p q path_p path_q same =
    elim (cases_order (length p) (length q)) [
      | inl long ↦ same_lists p q long (λ k d within. same_Some _ _ (sym (place-within p k d within) ∙ same k ∙ place-within q k d (omega arith)))
      | inr (inl less) ↦ absurd (no_longer p q same path_p.walkable.some_cell path_q.no_wait less)
      | inr (inr more) ↦ absurd (no_longer q p (λ time. sym (same time)) path_q.walkable.some_cell path_p.no_wait more)
    ]

pub one_path_holds : OnePath
one_path_holds cells walks =
    let first = path_of-path cells walks in
    (first, λ path is. paths-equal path (path_of cells) is.ends first.ends (λ time. is.same time ∙ sym (first.same time)))

-- the path that a plan is made of
pub path_of-is : (cells path : List Point) → IsWalkable cells → IsPathOf cells path → path ≡ path_of cells
path_of-is cells path walks is = (one_path_holds cells walks).1 path is
