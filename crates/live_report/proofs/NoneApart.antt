-- A route has no record that it doesn't have.
use Rattle.std.proofs.Common.{◌≡◌, ℕ, zero, suc, ◌+◌, ◌≤◌, min, max, Option, Some, None, length, refl, subst, arith}
use Rattle.std.proofs.lemmas.Bool.{eq-eqb}
use Rattle.grid_cells.specs.Cell.{Point}
use Rattle.plan_table.specs.Route.{Route}
use Rattle.where_index.specs.declared.trails.Hop.{Hop}
use Rattle.where_index.specs.Records.{stand_at, tail_at, hop_at, changed, changed_hop, changes_below, records_apart}

same_cell : (o : Option Point) → changed o o ≡ 0
same_cell None = refl
same_cell (Some a) = rw (eq-eqb a.x a.x refl, eq-eqb a.y a.y refl) refl

same_hop : (o : Option Hop) → changed_hop o o ≡ 0
same_hop None = refl
same_hop (Some h) = rw (eq-eqb h.from.x h.from.x refl, eq-eqb h.from.y h.from.y refl, eq-eqb h.to.x h.to.x refl, eq-eqb h.to.y h.to.y refl) refl

unchanged_below : {X : Type 0} (change : X → X → ℕ) (f : ℕ → X) (x : ℕ) → ((o : X) → change o o ≡ 0) → changes_below change f f x ≡ 0
unchanged_below change f zero same = refl
unchanged_below change f (suc x) same = omega (arith, unchanged_below change f x same, same (f x))

pub none_apart : (r : Route) → records_apart r r ≡ 0
none_apart r =
    let end : ℕ = max (length r.path) (length r.path) in
    omega (arith, unchanged_below changed (stand_at r) end same_cell, unchanged_below changed (tail_at r) end same_cell, unchanged_below changed_hop (hop_at r.path) end same_hop)

-- a count of records held at a most is that count with what tells a route from itself
pub none_more : (touched most : ℕ) (old new : Route) → old ≡ new → touched ≤ most → touched ≡ min (touched + records_apart old new) most
none_more touched most old new same few =
    let apart : records_apart old new ≡ 0 = subst (λ (r : Route). records_apart old r ≡ 0) same (none_apart old) in
    omega (arith, apart)
