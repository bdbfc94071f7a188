-- The flags of maps, and the cells whose state differs.
use Rattle.std.proofs.Common.{◌≡◌, ◌≢◌, List, [], ◌∷◌, ◌++◌, sym, ◌∙◌, inl, inr, arith, ℕ, ◌<◌, ◌⊎◌, length, refl, ap, subst, get_or}
use Rattle.std.proofs.lemmas.List.Elements.{Contains-append_left, Contains-append_right}
use Rattle.grid_cells.specs.Cell.{Point}
use Rattle.grid_cells.specs.Size.{Holds, Extent}
use Rattle.grid_cells.specs.Grid.{Chart, IsOpen, flag_index}
use Rattle.goal_fields.specs.Target.{flag_at, Covers}
use Rattle.goal_fields.proofs.Neighbours.{cases_cell, cell_at}
use Rattle.std.specs.Prelude.{Bool, true, false, Option, Some, None, IsTrue, ◌↔◌}
use Rattle.std.specs.List.{slice_get}
use Rattle.std.proofs.lemmas.List.{ext_get_or}
use Rattle.std.proofs.lemmas.Option.{unwrap_or-slice_get, slice_get-get_or}
use Rattle.std.specs.Option.{unwrap_or}
use Rattle.cell_queue.specs.Queue.{area}
use Rattle.cell_queue.proofs.Indexes.{index_below}
use Rattle.goal_fields.specs.Adopting.{IsAdopting}

pub Covers-more : (old now new : Chart) (done : List Point) (a : Point) → now.size ≡ old.size → Covers done old now → ((v : Point) → Holds now.size v → v ≢ a → flag_at new v ≡ flag_at now v) → Covers (done ++ a ∷ []) old new
Covers-more old now new done a size covers others v h differ =
    elim (cases_cell v a) [
      | inl e ↦ Contains-append_right done (a ∷ []) v (0, omega arith, sym e)
      | inr ne ↦ Contains-append_left done (a ∷ []) v (covers v h (λ same. differ (same ∙ sym (others v (rw size h) ne))))
    ]

-- the map has a flag for the cell
pub flag_given : (xs : List Bool) (i : ℕ) → i < length xs → (b : Bool) × (slice_get xs i ≡ Some b)
flag_given xs i h = (get_or xs i false, slice_get-get_or xs i false h)

-- a flag that was read is the grid's
pub flag_read : (grid : Chart) (cell : Point) (b : Bool) → Holds grid.size cell → length grid.flags ≡ area grid.size → (IsTrue b ↔ IsOpen grid cell) → Some b ≡ flag_at grid cell
flag_read grid cell b held whole iff = go b (flag_at grid cell) refl iff
  where
    go : (b : Bool) (f : Option Bool) → flag_at grid cell ≡ f → (IsTrue b ↔ IsOpen grid cell) → Some b ≡ flag_at grid cell
    go true f e iff = sym (iff.0 refl).1
    go false (Some true) e iff = (let t : false ≡ true = iff.1 (held, e) in cc)
    go false (Some false) e iff = sym e
    go false None e iff = (let (b, is) = flag_given grid.flags (flag_index grid.size cell) (omega (arith, index_below grid.size cell held)) in let x : None ≡ Some b = sym e ∙ is in cc)

-- two lists of flags that agree at each cell are equal
pub same_flags : (size : Extent) (xs ys : List Bool) → 0 < size.width → length xs ≡ area size → length ys ≡ area size →
    ((c : Point) → Holds size c → slice_get xs (flag_index size c) ≡ slice_get ys (flag_index size c)) → xs ≡ ys
same_flags size xs ys wide lx ly same =
    ext_get_or false xs ys (lx ∙ sym ly) (λ i h.
    (let (c, held, at) = cell_at size wide i (omega arith) in
    let here : slice_get xs i ≡ slice_get ys i = subst (λ (n : ℕ). slice_get xs n ≡ slice_get ys n) at (same c held) in
    sym (unwrap_or-slice_get xs i false) ∙ ap (λ (v : Option Bool). unwrap_or v false) here ∙ unwrap_or-slice_get ys i false))

-- flags are the same or differ
pub cases_flag : (a b : Option Bool) → (a ≡ b) ⊎ (a ≡ b → ⊥)
cases_flag a b = grind arith

-- once all changed cells are looked at, the flags are those of the new grid
pub flags_made : (start now target : Chart) (changed : List Point) → 0 < start.size.width → IsAdopting start now target changed → Covers changed start target →
    target.size ≡ start.size → length target.flags ≡ area target.size → now ≡ target
flags_made start now target changed wide e covers size whole =
    let flags : now.flags ≡ target.flags =
    same_flags start.size now.flags target.flags wide (rw e.size at e.whole) (rw size at whole)
    (λ c h. (let s : flag_at now c ≡ flag_at target c = each c h (e.either c h) (cases_flag (flag_at start c) (flag_at target c)) in
    sym (ap (λ (z : Extent). slice_get now.flags (flag_index z c)) e.size) ∙ s ∙ ap (λ (z : Extent). slice_get target.flags (flag_index z c)) size)) in
    let sizes : now.size ≡ target.size = e.size ∙ sym size in
    λ i. record { size = sizes i; flags = flags i }
  where
    each : (c : Point) → Holds start.size c → ((flag_at now c ≡ flag_at target c) ⊎ (flag_at now c ≡ flag_at start c)) →
        ((flag_at start c ≡ flag_at target c) ⊎ (flag_at start c ≡ flag_at target c → ⊥)) → flag_at now c ≡ flag_at target c
    each c h (inl s) _ = s
    each c h (inr o) (inl s) = o ∙ s
    each c h (inr o) (inr ne) = e.made c h (covers c h ne)

-- maps of one size of which no cell differs are equal
pub same_map : (old new : Chart) (changed : List Point) → length changed ≡ 0 → Covers changed old new → new.size ≡ old.size → 0 < old.size.width → length old.flags ≡ area old.size → length new.flags ≡ area new.size → old ≡ new
same_map old new changed none covers size wide long_old long_new =
    flags_made old old new changed wide
    (record {
      size = refl;
      whole = long_old;
      made = λ c h con. absurd (omega (arith, con.1, none));
      either = λ c h. inr refl;
    })
    covers size long_new
