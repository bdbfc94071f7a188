-- An index after one route is changed.
use Rattle.std.proofs.Common.{◌≡◌, ◌≢◌, ℕ, ◌+◌, ◌<◌, ◌≤◌, List, [], length, slice_get, Option, Some, None, cond, sym, ap, ◌∙◌, arith}
use Rattle.std.proofs.lemmas.Option.{slice_get_past}
use Rattle.std.specs.Option.{unwrap_or, option_and_then, option_map}
use Rattle.std.specs.Ordering.{nat_cmp, is_eq}
use Rattle.std.proofs.lemmas.Bool.Decides.{nat_tests}
use Rattle.grid_cells.specs.Cell.{Point}
use Rattle.plan_table.specs.Path.{last_index}
use Rattle.plan_table.specs.Route.{Route, Fleet, last_of, position}
use Rattle.where_index.specs.declared.ends.End.{End}
use Rattle.where_index.specs.Records.{stand_at, tail_at, hop_at, hop_between, leg_between, leg_at, rest_at}
use Rattle.where_index.specs.Changes.{HaveSameAt, set_row, ChangesSpots}
use Rattle.where_index.specs.Traffic.{ChangesLegs}
use Rattle.where_index.specs.Index.{Contents, end_in, all_of, StandsFor, with_route}
use Rattle.where_index.specs.Ends.{IsEndOf}
use Rattle.where_index.specs.Records.{nothing}
use Rattle.where_index.proofs.Changes.{HasSpots-ext}
use Rattle.where_index.proofs.Flowing.{HasTraffic-ext}

-- ---- no records after the end
pub past : (path : List Point) (t : ℕ) → length path ≤ t → slice_get path t ≡ None
past path t h = slice_get_past path t h

pub stand_past : (r : Route) (t : ℕ) → length r.path ≤ t → stand_at r t ≡ None
stand_past r t h = grind (arith, nat_tests)

pub rest_past : (r : Route) (t : ℕ) → length r.path ≤ t → tail_at r t ≡ None
rest_past r t h = grind (arith, nat_tests)

tail_elsewhere : (r : Route) (t : ℕ) → t ≢ last_index r.path → tail_at r t ≡ None
tail_elsewhere r t h = grind (arith, nat_tests)

-- two routes have the same tails, but for the times of their last indices
pub same_elsewhere : (old new : Route) (t : ℕ) → t ≢ last_index old.path → t ≢ last_index new.path → tail_at old t ≡ tail_at new t
same_elsewhere old new t a b = tail_elsewhere old t a ∙ sym (tail_elsewhere new t b)

pub rest_elsewhere : (old new : Route) (t : ℕ) → t ≢ last_index old.path → t ≢ last_index new.path → rest_at old t ≡ rest_at new t
rest_elsewhere old new t a b = ap (λ o. leg_between o None) (same_elsewhere old new t a b)

pub hop_past : (path : List Point) (t : ℕ) → length path ≤ t → hop_at path t ≡ None
hop_past path t h = ap (λ (o : Option Point). hop_between o (slice_get path (t + 1))) (past path t h)

pub same_past : (old new : Route) (to t : ℕ) → length old.path ≤ to → length new.path ≤ to → to ≤ t → HaveSameAt old new t
same_past old new to t a b h = grind (arith, nat_tests, past old.path t, past new.path t)

-- ---- one agent's route changed
module _ (fleet : Fleet) (agent : ℕ) (before next : Option Route) (was : fleet agent ≡ before) where
  module _ {X : Type 0} (g : Route → ℕ → Option X) (empty : (t : ℕ) → g nothing t ≡ None) where
    at_option : (o : Option Route) (t : ℕ) → option_and_then (λ r. g r t) o ≡ g (unwrap_or o nothing) t
    at_option o t = grind (arith, empty t)

    pub agrees : (t : ℕ) → all_of g fleet agent t ≡ g (unwrap_or before nothing) t
    agrees t = ap (λ o. option_and_then (λ r. g r t) o) was ∙ at_option before t

    pub row_next : (a t : ℕ) → set_row (all_of g fleet) agent (g (unwrap_or next nothing)) a t ≡ all_of g (with_route fleet agent next) a t
    row_next a t = grind (arith, nat_tests, at_option next t)

  no_leg : (t : ℕ) → leg_at nothing t ≡ None
  no_leg t = ap (λ o. leg_between o (hop_at [] t)) (stand_past nothing t (omega arith))

  no_rest : (t : ℕ) → rest_at nothing t ≡ None
  no_rest t = ap (λ o. leg_between o None) (rest_past nothing t (omega arith))

  ends_next : (old new : List (ℕ × End)) (end : Option End) → ((q : ℕ) → end_in new q ≡ cond (is_eq (nat_cmp agent q)) end (end_in old q)) → ((a : ℕ) → IsEndOf (end_in old a) (fleet a)) → IsEndOf end next → (a : ℕ) → IsEndOf (end_in new a) (with_route fleet agent next a)
  ends_next old new end puts has is a = grind (arith, nat_tests, puts a, has a)

  horizon_next : (old new : ℕ) → ((a : ℕ) → last_of fleet a ≤ old) → old ≤ new → last_index (unwrap_or next nothing).path ≤ new → (a : ℕ) → last_of (with_route fleet agent next) a ≤ new
  horizon_next old new has more last a = grind (arith, nat_tests, has a, last_le next last) where
    last_le : (o : Option Route) → last_index (unwrap_or o nothing).path ≤ new → unwrap_or (option_map (λ (q : Route). last_index q.path) o) 0 ≤ new
    last_le None h = omega arith
    last_le (Some r) h = h

  -- the index after the records, the end and the horizon are changed
  pub stands_next : (index new : Contents) (end : Option End) → StandsFor index fleet
      → ChangesLegs index.traffic new.traffic agent (leg_at (unwrap_or before nothing)) (leg_at (unwrap_or next nothing))
      → ChangesSpots index.traffic.tails new.traffic.tails agent (rest_at (unwrap_or before nothing)) (rest_at (unwrap_or next nothing))
      → ((q : ℕ) → end_in new.ends q ≡ cond (is_eq (nat_cmp agent q)) end (end_in index.ends q)) → IsEndOf end next
      → index.horizon ≤ new.horizon → last_index (unwrap_or next nothing).path ≤ new.horizon
      → StandsFor new (with_route fleet agent next)
  stands_next index new end has legs tails puts is more last = record {
    traffic = HasTraffic-ext new.traffic _ _ (row_next leg_at no_leg) (legs (all_of leg_at fleet) has.traffic (agrees leg_at no_leg));
    tails = HasSpots-ext new.traffic.tails _ _ (row_next rest_at no_rest) (tails (all_of rest_at fleet) has.tails (agrees rest_at no_rest));
    ends = ends_next index.ends new.ends end puts has.ends is;
    horizon = horizon_next index.horizon new.horizon has.horizon more last;
  }

-- ---- the same records where the positions are the same, well before both ends
pub early_stand : (r : Route) (t : ℕ) → t + 1 < length r.path → stand_at r t ≡ slice_get r.path t
early_stand r t h = grind (arith, nat_tests)

pub same_early : (old new : Route) (since t : ℕ) → ((x : ℕ) → x < since → position old x ≡ position new x) → t + 1 < since → t + 2 < length old.path → t + 2 < length new.path → HaveSameAt old new t
same_early old new since t same h a b = grind (arith, nat_tests, same t, same (t + 1))
