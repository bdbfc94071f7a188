-- The records that tell two routes apart, listed one by one and counted.
use Rattle.std.proofs.Common.{◌≡◌, ◌≢◌, inl, inr, ℕ, ◌<◌, ◌≤◌, max, List, ◌++◌, length, Contains, Option, None, Bool, true, ◌&&◌, refl, sym, ◌∙◌, subst, arith}
use Rattle.std.proofs.lemmas.Bool.Decides.{nat_tests}
use mathlib.Core.Logic.{◌↔◌}
use Rattle.std.proofs.lemmas.List.{length-append}
use Rattle.std.proofs.lemmas.List.Elements.{Contains-append_left, Contains-append_right, Contains-append_cases}
use Rattle.grid_cells.specs.Cell.{Point}
use Rattle.plan_table.specs.Route.{Route}
use Rattle.where_index.specs.declared.trails.Hop.{Hop}
use Rattle.where_index.specs.Records.{stand_at, tail_at, hop_at, same_point, changed, changed_hop, records_apart}
use Rattle.where_index.specs.Counted.{Record, Stand, Tail, Move, TellsApart}
use Rattle.where_index.specs.Laws.{RecordsAreCounted}
use Rattle.where_index.proofs.Changes.{same_points}
use Rattle.where_index.proofs.Moving.{points_one}
use Rattle.where_index.proofs.Standing.{stand_past, rest_past, hop_past}
use Rattle.where_index.proofs.Listing.{Once, once_both, OneIs, below, below_shows, below_once, below_length, only_length}

-- ---- the three kinds
abbrev same_hop : Hop → Hop → Bool
same_hop a b = same_point a.from b.from && same_point a.to b.to

hops_one : (a b : Hop) → same_hop a b ≡ true → a ≡ b
hops_one a b is = grind (arith, nat_tests)

hops_two : (a : Hop) → same_hop a a ≡ true
hops_two a = grind (arith, nat_tests)

abbrev move : ℕ → Hop → Record
move time hop = Move time hop.from hop.to

stand_times : (t s : ℕ) (v w : Point) → Stand t v ≡ Stand s w → t ≡ s
stand_times t s v w e = cc

stand_values : (t s : ℕ) (v w : Point) → Stand t v ≡ Stand s w → v ≡ w
stand_values t s v w e = cc

tail_times : (t s : ℕ) (v w : Point) → Tail t v ≡ Tail s w → t ≡ s
tail_times t s v w e = cc

tail_values : (t s : ℕ) (v w : Point) → Tail t v ≡ Tail s w → v ≡ w
tail_values t s v w e = cc

move_times : (t s : ℕ) (v w : Hop) → move t v ≡ move s w → t ≡ s
move_times t s v w e = cc

move_values : (t s : ℕ) (v w : Hop) → move t v ≡ move s w → v ≡ w
move_values t s v w e = grind arith

-- ---- all records of two routes
module _ (old new : Route) where
  until : ℕ
  until = max (length old.path) (length new.path)

  stands : List Record
  stands = below Stand stand_times stand_values same_point points_one same_points (stand_at old) (stand_at new) until

  tails : List Record
  tails = below Tail tail_times tail_values same_point points_one same_points (tail_at old) (tail_at new) until

  moves : List Record
  moves = below move move_times move_values same_hop hops_one hops_two (hop_at old.path) (hop_at new.path) until

  stands_show : (r : Record) → Contains stands r ↔ ((t : ℕ) × (t < until) × ((v : Point) × (r ≡ Stand t v) × OneIs (stand_at old t) (stand_at new t) v))
  unfolding stands
  stands_show = below_shows Stand stand_times stand_values same_point points_one same_points (stand_at old) (stand_at new) until

  tails_show : (r : Record) → Contains tails r ↔ ((t : ℕ) × (t < until) × ((v : Point) × (r ≡ Tail t v) × OneIs (tail_at old t) (tail_at new t) v))
  unfolding tails
  tails_show = below_shows Tail tail_times tail_values same_point points_one same_points (tail_at old) (tail_at new) until

  moves_show : (r : Record) → Contains moves r ↔ ((t : ℕ) × (t < until) × ((v : Hop) × (r ≡ move t v) × OneIs (hop_at old.path t) (hop_at new.path t) v))
  unfolding moves
  moves_show = below_shows move move_times move_values same_hop hops_one hops_two (hop_at old.path) (hop_at new.path) until

  in_time : {X : Type 0} (o n : ℕ → Option X) → ((t : ℕ) → until ≤ t → o t ≡ None) → ((t : ℕ) → until ≤ t → n t ≡ None) → (t : ℕ) (v : X) → OneIs (o t) (n t) v → t < until
  in_time o n no_o no_n t v h = grind (arith, no_o t, no_n t)

  late_old : (t : ℕ) → until ≤ t → length old.path ≤ t
  unfolding until
  late_old t h = omega arith

  late_new : (t : ℕ) → until ≤ t → length new.path ≤ t
  unfolding until
  late_new t h = omega arith

  listed : (r : Record) → TellsApart old new r → Contains (stands ++ (tails ++ moves)) r
  listed (Stand t c) h = Contains-append_left stands (tails ++ moves) (Stand t c)
      ((stands_show (Stand t c)).1 (t, in_time (stand_at old) (stand_at new) (λ x l. stand_past old x (late_old x l)) (λ x l. stand_past new x (late_new x l)) t c h, (c, refl, h)))
  listed (Tail t c) h = Contains-append_right stands (tails ++ moves) (Tail t c) (Contains-append_left tails moves (Tail t c)
      ((tails_show (Tail t c)).1 (t, in_time (tail_at old) (tail_at new) (λ x l. rest_past old x (late_old x l)) (λ x l. rest_past new x (late_new x l)) t c h, (c, refl, h))))
  listed (Move t a b) h =
      let hop : Hop = record { from = a; to = b } in
      Contains-append_right stands (tails ++ moves) (Move t a b) (Contains-append_right tails moves (Move t a b)
      ((moves_show (Move t a b)).1 (t, in_time (hop_at old.path) (hop_at new.path) (λ x l. hop_past old.path x (late_old x l)) (λ x l. hop_past new.path x (late_new x l)) t hop h, (hop, refl, h))))

  tells : (r : Record) → Contains (stands ++ (tails ++ moves)) r → TellsApart old new r
  tells r h = elim (Contains-append_cases stands (tails ++ moves) r h) [
    | inl s ↦ let w = (stands_show r).0 s in subst (TellsApart old new) (sym w.2.1) w.2.2
    | inr more ↦ elim (Contains-append_cases tails moves r more) [
      | inl s ↦ let w = (tails_show r).0 s in subst (TellsApart old new) (sym w.2.1) w.2.2
      | inr s ↦ let w = (moves_show r).0 s in subst (TellsApart old new) (sym w.2.1) w.2.2
    ]
  ]

  stands_once : Once stands
  unfolding stands
  stands_once = below_once Stand stand_times stand_values same_point points_one same_points (stand_at old) (stand_at new) until

  tails_once : Once tails
  unfolding tails
  tails_once = below_once Tail tail_times tail_values same_point points_one same_points (tail_at old) (tail_at new) until

  moves_once : Once moves
  unfolding moves
  moves_once = below_once move move_times move_values same_hop hops_one hops_two (hop_at old.path) (hop_at new.path) until

  all_once : Once (stands ++ (tails ++ moves))
  all_once = once_both stands (tails ++ moves) stands_once (once_both tails moves tails_once moves_once apart) others where
    tail_move : (t s : ℕ) (v : Point) (w : Hop) → Tail t v ≡ move s w → ⊥
    tail_move t s v w e = cc

    stand_tail : (t s : ℕ) (v w : Point) → Stand t v ≡ Tail s w → ⊥
    stand_tail t s v w e = cc

    stand_move : (t s : ℕ) (v : Point) (w : Hop) → Stand t v ≡ move s w → ⊥
    stand_move t s v w e = cc

    apart : (a b : Record) → Contains tails a → Contains moves b → a ≢ b
    apart a b h g is =
        let x = (tails_show a).0 h in
        let y = (moves_show b).0 g in
        tail_move x.0 y.0 x.2.0 y.2.0 (sym x.2.1 ∙ (is ∙ y.2.1))

    others : (a b : Record) → Contains stands a → Contains (tails ++ moves) b → a ≢ b
    others a b h g is =
        let x = (stands_show a).0 h in
        elim (Contains-append_cases tails moves b g) [
          | inl s ↦ let y = (tails_show b).0 s in stand_tail x.0 y.0 x.2.0 y.2.0 (sym x.2.1 ∙ (is ∙ y.2.1))
          | inr s ↦ let y = (moves_show b).0 s in stand_move x.0 y.0 x.2.0 y.2.0 (sym x.2.1 ∙ (is ∙ y.2.1))
        ]

  all_length : length (stands ++ (tails ++ moves)) ≡ records_apart old new
  unfolding stands tails moves until
  all_length =
      let a = below_length Stand stand_times stand_values same_point points_one same_points (stand_at old) (stand_at new) changed (only_length Stand stand_times stand_values same_point points_one same_points changed refl (λ _. refl) (λ _. refl) (λ _ _. refl)) until in
      let b = below_length Tail tail_times tail_values same_point points_one same_points (tail_at old) (tail_at new) changed (only_length Tail tail_times tail_values same_point points_one same_points changed refl (λ _. refl) (λ _. refl) (λ _ _. refl)) until in
      let d = below_length move move_times move_values same_hop hops_one hops_two (hop_at old.path) (hop_at new.path) changed_hop (only_length move move_times move_values same_hop hops_one hops_two changed_hop refl (λ _. refl) (λ _. refl) (λ _ _. refl)) until in
      let sum = length-append stands (tails ++ moves) in
      let rest = length-append tails moves in
      omega (arith, a, b, d, sum, rest)

pub records_are_counted : RecordsAreCounted
records_are_counted old new = (
  stands old new ++ (tails old new ++ moves old new),
  record { each_once = all_once old new; exact = λ r. (tells old new r, listed old new r) },
  all_length old new,
)
