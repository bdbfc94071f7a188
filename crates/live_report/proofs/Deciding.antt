-- What holds or doesn't, and what is given where it holds.
use Rattle.std.proofs.Common.{◌≡◌, ℕ, Bool, true, false, List, [], ◌∷◌, Option, None, Some, refl, ap, ◌∙◌, ◌⊎◌, inl, inr}
use mathlib.Core.Bool.{false≢true}
use Rattle.std.specs.Prelude.{◌↔◌, IsTrue, IsSome, All, map, sum, fold, max, unwrap_or, Contains, not}
use Rattle.std.specs.Option.{SomeIff}
use Rattle.std.proofs.lemmas.Bool.{cases_eq}
use Rattle.std.proofs.lemmas.List.Elements.{All-nil, All-cons, All-head, All-tail}
use Rattle.grid_cells.specs.Grid.{Chart}
use Rattle.plan_table.specs.Plans.{row_of}
use Rattle.plan_table.specs.declared.plans.Row.{Row}
use Rattle.plan_table.proofs.Order.{Contains-nil, Contains-cons_head, Contains-cons_tail, Contains-cons_cases}
use Rattle.mapf_rules.specs.Costs.{IsSumOf, IsGreatestOf}
use Rattle.mapf_rules.specs.Visits.{IsUnblocked, AreVisits}
use Rattle.mapf_rules.specs.declared.visits.Visit.{Visit}
use Rattle.live_report.proofs.Blocking.{no_visit}

abbrev pub Decided : Type 0 → Type 0
Decided P = P ⊎ (P → ⊥)

pub decided_both : (P Q : Type 0) → Decided P → Decided Q → Decided (P × Q)
decided_both P Q (inl p) (inl q) = inl (p, q)
decided_both P Q (inr none) q = inr (λ both. none both.0)
decided_both P Q p (inr none) = inr (λ both. none both.1)

pub given_if : (P : Type 0) (value : ℕ) → Decided P → (given : Option ℕ) × SomeIff given P value
given_if P value (inl is) = (Some value, (is, refl))
given_if P value (inr isnt) = (None, isnt)

pub decided_by : (given : Option ℕ) (P : Type 0) (value : ℕ) → SomeIff given P value → Decided P
decided_by None P value isnt = inr isnt
decided_by (Some n) P value is = inl is.0

pub truth_of : (P : Type 0) → Decided P → (truth : Bool) × (IsTrue truth ↔ P)
truth_of P (inl is) = (true, ((λ _. is), (λ _. refl)))
truth_of P (inr isnt) = (false, ((λ wrong. absurd (false≢true wrong)), (λ is. absurd (isnt is))))

-- a test that is turned says that the fact doesn't hold
pub turned : (test : Bool) (P : Type 0) → (IsTrue test ↔ P) → IsTrue (not test) ↔ (P → ⊥)
turned true P means = ((λ wrong. absurd (false≢true wrong)), (λ none. absurd (none (means.0 refl))))
turned false P means = ((λ _ is. false≢true (means.1 is)), (λ _. refl))

-- ---- sums, and the greatest of some
all_given : (given : List (Option ℕ)) → Decided (All IsSome given)
all_given [] = inl (All-nil IsSome)
all_given (None ∷ given) = inr (λ all. false≢true (All-head IsSome None given all))
all_given (Some n ∷ given) =
    elim (all_given given) [
      | inl all ↦ inl (All-cons IsSome (Some n) given refl all)
      | inr isnt ↦ inr (λ all. isnt (All-tail IsSome (Some n) given all))
    ]

pub sum_given : (given : List (Option ℕ)) → (total : Option ℕ) × IsSumOf given total
sum_given given = given_if (All IsSome given) (sum (map (λ n. unwrap_or n 0) given)) (all_given given)

pub greatest_given : (given : List (Option ℕ)) → (greatest : Option ℕ) × IsGreatestOf given greatest
greatest_given given = given_if (All IsSome given) (fold max 0 (map (λ n. unwrap_or n 0) given)) (all_given given)

-- ---- blocked visits
HasVisit : List Visit → ℕ → Type 0
HasVisit visits agent = (visit : Visit) × Contains visits visit × (visit.agent ≡ agent)

visit_or_none : (visits : List Visit) (agent : ℕ) → Decided (HasVisit visits agent)
unfolding HasVisit
visit_or_none [] agent = inr (λ has. Contains-nil has.0 has.1)
visit_or_none (visit ∷ later) agent =
    elim (cases_eq visit.agent agent) [
      | inl same ↦ inl (visit, Contains-cons_head visit later, same)
      | inr other ↦
          elim (visit_or_none later agent) [
            | inl has ↦ inl (has.0, Contains-cons_tail visit later has.0 has.1, has.2)
            | inr none ↦ inr (λ has. elim (Contains-cons_cases visit later has.0 has.1) [
              | inl is ↦ other (ap (λ (v : Visit). v.agent) is ∙ has.2)
              | inr more ↦ none (has.0, more, has.2)
            ])
          ]
    ]

pub unblocked_or_not : (grid : Chart) (rows : List (ℕ × Row)) (visits : List Visit) → AreVisits grid rows visits → (agent : ℕ) (row : Row) → row_of rows agent ≡ Some row → Decided (IsUnblocked grid row.plan)
unfolding HasVisit
unblocked_or_not grid rows visits are agent row live =
    elim (visit_or_none visits agent) [
      | inl has ↦ inr (λ unblocked. no_visit grid rows visits are agent row live unblocked has.0 has.1 has.2)
      | inr none ↦ inl (λ time cell blocked. none (record { agent = agent; time = time; cell = cell }, (are.exact (record { agent = agent; time = time; cell = cell })).1 (record { row = row; live = live; blocked = blocked }), refl))
    ]
