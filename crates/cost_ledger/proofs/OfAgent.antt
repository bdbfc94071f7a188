-- The visits of one agent in an ordered set.
use Rattle.std.proofs.Common.{◌≡◌, ◌⊎◌, inl, inr, ℕ, ◌<◌, ◌≤◌, Bool, true, false, ◌&&◌, List, [], ◌∷◌, Contains, nat_eq, refl, sym, ap, subst, ◌∙◌, arith}
use mathlib.Core.Logic.{◌↔◌}
use Rattle.std.specs.List.{filter}
use Rattle.std.specs.List.Sorted.{IsStrictlySortedBy}
use Rattle.std.specs.Ordering.{is_le}
use Rattle.std.specs.BTreeMap.Range.{range_contains}
use Rattle.std.specs.declared.cmp.Ordering.TheVariants.{Less}
use Rattle.std.specs.declared.ops.Bound.TheVariants.{Included, Unbounded}
use Rattle.std.proofs.lemmas.Bool.Decides.{nat_tests}
use Rattle.std.proofs.lemmas.List.Elements.{All-contains}
use Rattle.std.proofs.lemmas.List.Kept.{IsStrictlySortedBy-filter}
use Rattle.std.proofs.lemmas.Map.Views.{All-after_first}
use Rattle.plan_table.proofs.Order.{Contains-nil, Contains-cons_head, Contains-cons_cases, Contains-cons_tail}
use Rattle.cost_ledger.proofs.Filtering.{filter_keeps}
use Rattle.grid_cells.specs.Cell.{point}
use Rattle.mapf_rules.specs.declared.visits.Visit.{Visit}
use Rattle.cost_ledger.specs.Kept.{visit_cmp}
use Rattle.cost_ledger.specs.Agents.{front_of}

-- the visits from the agent's place on
abbrev from_agent : ℕ → Visit → Bool
from_agent agent v = is_le (visit_cmp (record { agent = agent; time = 0; cell = point 0 0 }) v)

and_end : (b : Bool) → (b && true) ≡ b
and_end b = grind arith

reached : (agent : ℕ) (v : Visit) → v.agent ≡ agent → from_agent agent v ≡ true
reached agent v same = grind (arith, nat_tests)

not_before : (agent : ℕ) (v : Visit) → from_agent agent v ≡ true → agent ≤ v.agent
not_before agent v from = grind (arith, nat_tests)

ascending : (a b : Visit) → visit_cmp a b ≡ Less → a.agent ≤ b.agent
ascending a b less = grind (arith, nat_tests)

same_agent : (n m : ℕ) → (nat_eq n m ≡ true) ⊎ (nat_eq n m ≡ false)
same_agent n m = grind (arith, nat_tests)

pub found_from : (agent : ℕ) (visits found : List Visit) → found ≡ filter (range_contains visit_cmp (Included (record { agent = agent; time = 0; cell = point 0 0 })) Unbounded) visits → found ≡ filter (from_agent agent) visits
found_from agent visits found is = is ∙ λ i. filter (λ v. and_end (from_agent agent v) i) visits

later : (v : Visit) (vs : List Visit) → IsStrictlySortedBy visit_cmp (v ∷ vs) → IsStrictlySortedBy visit_cmp vs
unfolding IsStrictlySortedBy
later v vs sorted = sorted.1

front_has : (agent : ℕ) (found : List Visit) → IsStrictlySortedBy visit_cmp found → ((v : Visit) → Contains found v → agent ≤ v.agent) → (v : Visit) → Contains (front_of agent found) v ↔ (Contains found v × (v.agent ≡ agent))
front_has agent [] sorted from v = (λ h. absurd (Contains-nil v h), λ w. w.0)
front_has agent (x ∷ xs) sorted from v = elim (same_agent x.agent agent) [
  | inl same ↦
      let is : x.agent ≡ agent = grind (arith, nat_tests) in
      let rest = front_has agent xs (later x xs sorted) (λ u h. from u (Contains-cons_tail x xs u h)) v in
      let open_ : front_of agent (x ∷ xs) ≡ x ∷ front_of agent xs = rw same refl in (
        λ h. elim (Contains-cons_cases x (front_of agent xs) v (subst (λ (l : List Visit). Contains l v) open_ h)) [
          | inl one ↦ (subst (Contains (x ∷ xs)) one (Contains-cons_head x xs), ap (λ (u : Visit). u.agent) (sym one) ∙ is)
          | inr more ↦ let w = rest.0 more in (Contains-cons_tail x xs v w.0, w.1)
        ],
        λ w. subst (λ (l : List Visit). Contains l v) (sym open_) (elim (Contains-cons_cases x xs v w.0) [
          | inl one ↦ subst (Contains (x ∷ front_of agent xs)) one (Contains-cons_head x (front_of agent xs))
          | inr more ↦ Contains-cons_tail x (front_of agent xs) v (rest.1 (more, w.1))
        ]),
      )
  | inr apart ↦
      let above : agent ≤ x.agent = from x (Contains-cons_head x xs) in
      let not : x.agent ≡ agent → ⊥ = λ e. grind (arith, nat_tests) in
      let closed : front_of agent (x ∷ xs) ≡ [] = rw apart refl in (
        λ h. absurd (Contains-nil v (subst (λ (l : List Visit). Contains l v) closed h)),
        λ w. absurd (elim (Contains-cons_cases x xs v w.0) [
          | inl one ↦ not (ap (λ (u : Visit). u.agent) one ∙ w.1)
          | inr more ↦
              let up = ascending x v (All-contains (λ u. visit_cmp x u ≡ Less) xs v (All-after_first visit_cmp x xs sorted) more) in
              not (omega (arith, above, up, w.1))
        ]),
      )
]

-- of the visits from the agent's place on its own are in front
pub front_is : (agent : ℕ) (visits found : List Visit) → found ≡ filter (from_agent agent) visits → IsStrictlySortedBy visit_cmp visits → (v : Visit) → Contains (front_of agent found) v ↔ (Contains visits v × (v.agent ≡ agent))
front_is agent visits found is sorted v =
    let keeps = λ (u : Visit). subst (λ (l : List Visit). Contains l u ↔ (Contains visits u × (from_agent agent u ≡ true))) (sym is) (filter_keeps (from_agent agent) visits u) in
    let ordered = subst (IsStrictlySortedBy visit_cmp) (sym is) (IsStrictlySortedBy-filter visit_cmp (from_agent agent) visits sorted) in
    let front = front_has agent found ordered (λ u h. not_before agent u ((keeps u).0 h).1) v in (
      λ h. let w = front.0 h in (((keeps v).0 w.0).0, w.1),
      λ w. front.1 ((keeps v).1 (w.0, reached agent v w.1), w.1),
    )
