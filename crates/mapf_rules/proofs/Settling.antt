-- A path with no wait at its end settles at its last index.
use Rattle.std.proofs.lemmas.Bool.Decides.{nat_tests}
use Rattle.std.proofs.Common.{◌≡◌, ℕ, ◌-◌, ◌≤◌, min, List, Option, refl, sym, ◌∙◌, inl, inr, arith}
use Rattle.std.specs.Option.{SomeIff}
use Rattle.std.specs.List.{slice_get}
use Rattle.std.proofs.lemmas.Bool.{cases_lt}
use Rattle.grid_cells.specs.Cell.{Point}
use Rattle.plan_table.specs.Path.{last_index, place, IsPath}
use Rattle.plan_table.proofs.Order.{ListsAll-unique, EachOf-unique}
use Rattle.plan_table.specs.declared.plans.Row.{Row}
use Rattle.mapf_rules.specs.Costs.{IsSettleTime, IsCost, AreCosts}
use Rattle.mapf_rules.specs.Visits.{IsVisit, visit_key}
use Rattle.mapf_rules.specs.Laws.{SettlesAtLast, OneVisitList, OneSumAndMakespan}

place_at_end : (path : List Point) (time : ℕ) → last_index path ≤ time → place path time ≡ slice_get path (last_index path)
place_at_end path time late = let now : min time (last_index path) ≡ last_index path = omega arith in rw now refl

pub settles : (path : List Point) → IsPath path → IsSettleTime path (last_index path)
settles path is = record {
  rests = λ later le. place_at_end path later le ∙ sym (place_at_end path (last_index path) (omega arith));
  least = λ earlier rests. elim (cases_lt earlier (last_index path)) [
    | inr done ↦ done
    | inl early ↦ absurd (is.no_wait (last_index path - 1, omega arith, grind (arith, rests (last_index path - 1), rests (last_index path))))
  ];
}

pub settle_once : (path : List Point) (s t : ℕ) → IsSettleTime path s → IsSettleTime path t → s ≡ t
settle_once path s t left right = let lower : s ≤ t = left.least t right.rests in let upper : t ≤ s = right.least s left.rests in omega arith

pub settles_law : SettlesAtLast
settles_law = record { settles = settles; once = settle_once }

-- what is given exactly where a fact holds is given once
pub SomeIff-unique : {X : Type 0} (a b : Option X) (P : Type 0) (v : X) → SomeIff a P v → SomeIff b P v → a ≡ b
SomeIff-unique a b P v left right = grind arith

pub visits_law : OneVisitList
visits_law grid rows xs ys left right = ListsAll-unique visit_key (IsVisit grid rows) xs ys left right

pub IsCost-unique : (row : Row) (a b : Option ℕ) → IsCost row a → IsCost row b → a ≡ b
IsCost-unique row a b left right = grind (arith, nat_tests)

-- rows have one list of costs
costs_unique : (rows : List (ℕ × Row)) (xs ys : List (Option ℕ)) → AreCosts rows xs → AreCosts rows ys → xs ≡ ys
costs_unique rows xs ys left right = EachOf-unique (λ (entry : ℕ × Row) (cost : Option ℕ). IsCost entry.1 cost) (λ entry a b l r. IsCost-unique entry.1 a b l r) rows xs ys left right

pub totals_law : OneSumAndMakespan
totals_law = record {
  sum = λ rows a b left right. grind (arith, costs_unique rows left.0 right.0 left.1 right.1);
  makespan = λ rows a b left right. grind (arith, costs_unique rows left.0 right.0 left.1 right.1);
}
