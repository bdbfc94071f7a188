-- What an index keeps fixes its fleet.
use Rattle.std.proofs.Common.{◌≡◌, ℕ, List, length, slice_get, Option, Some, None, refl, sym, ap, ◌∙◌, arith}
use Rattle.std.specs.Option.{option_and_then, option_map, unwrap_or}
use Rattle.std.proofs.lemmas.Bool.Decides.{nat_tests}
use Rattle.std.proofs.lemmas.List.{same_lists}
use Rattle.std.proofs.lemmas.Option.{slice_get_within, unwrap_or-slice_get}
use Rattle.grid_cells.specs.Cell.{Point}
use Rattle.plan_table.specs.Path.{last_index}
use Rattle.plan_table.specs.Route.{Route, position}
use Rattle.where_index.specs.declared.spot_sets.Spot.{Spot}
use Rattle.where_index.specs.declared.ends.End.{End}
use Rattle.where_index.specs.Spots.{spot}
use Rattle.where_index.specs.declared.trails.Hop.{Hop}
use Rattle.where_index.specs.Records.{stand_at, tail_at, hop_at, leg_between, leg_at, rest_at}
use Rattle.where_index.specs.ByCell.{ByCell}
use Rattle.where_index.specs.Changes.{HasSpots}
use Rattle.where_index.specs.Ends.{IsEndOf}
use Rattle.where_index.specs.Index.{all_of}
use Rattle.where_index.specs.Laws.{OneFleet}
use Rattle.where_index.proofs.Standing.{past}

-- an option is fixed by the values that it can be
same_option : {X : Type 0} (o p : Option X) → ((x : X) → o ≡ Some x → p ≡ Some x) → ((x : X) → p ≡ Some x → o ≡ Some x) → o ≡ p
same_option None None there back = refl
same_option None (Some y) there back = back y refl
same_option (Some x) p there back = sym (there x refl)

same_spots : (sets : ByCell) (f g : ℕ → ℕ → Option Hop) → HasSpots sets f → HasSpots sets g → (a t : ℕ) → f a t ≡ g a t
same_spots sets f g has_f has_g a t = same_option (f a t) (g a t) (λ c h. (has_g c.from (at c)).0 ((has_f c.from (at c)).1 h)) (λ c h. (has_f c.from (at c)).0 ((has_g c.from (at c)).1 h)) where
  at : Hop → Spot
  at c = spot t a c.to

-- where agents go says where they are
start_of : (o : Option Point) (move : Option Hop) → option_map (λ (h : Hop). h.from) (leg_between o move) ≡ o
start_of None move = refl
start_of (Some c) None = refl
start_of (Some c) (Some m) = refl

same_starts : (g : Route → ℕ → Option Point) (k : Route → ℕ → Option Hop) (o p : Option Route) (t : ℕ) → option_and_then (λ r. leg_between (g r t) (k r t)) o ≡ option_and_then (λ r. leg_between (g r t) (k r t)) p → option_and_then (λ r. g r t) o ≡ option_and_then (λ r. g r t) p
same_starts g k o p t same = sym (starts o) ∙ (ap (option_map (λ (h : Hop). h.from)) same ∙ starts p) where
  starts : (q : Option Route) → option_map (λ (h : Hop). h.from) (option_and_then (λ r. leg_between (g r t) (k r t)) q) ≡ option_and_then (λ r. g r t) q
  starts None = refl
  starts (Some r) = start_of (g r t) (k r t)

same_cell : (r q : Route) (t : ℕ) → length r.path ≡ length q.path → r.leaves ≡ q.leaves → stand_at r t ≡ stand_at q t → tail_at r t ≡ tail_at q t → slice_get r.path t ≡ slice_get q.path t
same_cell r q t long leaves stands tails = grind (arith, nat_tests, past r.path t, past q.path t)

same_path : (xs ys : List Point) → length xs ≡ length ys → ((k : ℕ) → slice_get xs k ≡ slice_get ys k) → xs ≡ ys
same_path xs ys long same = same_lists xs ys long (λ k d h. sym (unwrap_or-slice_get xs k d) ∙ (ap (λ o. unwrap_or o d) (same k) ∙ unwrap_or-slice_get ys k d))

one_route : (end : Option End) (o p : Option Route) → IsEndOf end o → IsEndOf end p → ((t : ℕ) → option_and_then (λ r. stand_at r t) o ≡ option_and_then (λ r. stand_at r t) p) → ((t : ℕ) → option_and_then (λ r. tail_at r t) o ≡ option_and_then (λ r. tail_at r t) p) → o ≡ p
one_route None None None a b stands tails = refl
one_route None None (Some q) a b stands tails = absurd b
one_route None (Some r) p a b stands tails = absurd a
one_route (Some end) None p a b stands tails = absurd a
one_route (Some end) (Some r) None a b stands tails = absurd b
one_route (Some end) (Some r) (Some q) a b stands tails =
    let some_r = slice_get_within r.path (last_index r.path) end.cell a.cell in
    let some_q = slice_get_within q.path (last_index q.path) end.cell b.cell in
    let long : length r.path ≡ length q.path = omega (arith, a.last, b.last, some_r, some_q) in
    let leaves : r.leaves ≡ q.leaves = sym a.leaves ∙ b.leaves in
    let paths : r.path ≡ q.path = same_path r.path q.path long (λ k. same_cell r q k long leaves (stands k) (tails k)) in
    λ i. Some (record { path = paths i; leaves = leaves i })

pub one_fleet : OneFleet
one_fleet index one two has also agent =
    let route : one agent ≡ two agent = one_route _ (one agent) (two agent) (has.ends agent) (also.ends agent)
    (λ t. same_starts stand_at (λ r t. hop_at r.path t) (one agent) (two agent) t (same_spots index.traffic.stands (all_of leg_at one) (all_of leg_at two) has.traffic.stands also.traffic.stands agent t))
    (λ t. same_starts tail_at (λ r t. None) (one agent) (two agent) t (same_spots index.traffic.tails (all_of rest_at one) (all_of rest_at two) has.tails also.tails agent t)) in
    (route, λ time. ap (λ o. option_and_then (λ r. position r time) o) route)
