-- What is gathered from spots, and the ascending list of it.
use Rattle.std.proofs.Common.{◌≡◌, ◌⊎◌, inl, inr, ℕ, List, [], ◌∷◌, get_or, Contains, sym, ap, ◌∙◌, subst, arith}
use mathlib.Core.Logic.{◌↔◌}
use Rattle.std.specs.List.{AllPairs}
use Rattle.std.specs.List.Sorted.{IsStrictlySortedBy}
use Rattle.std.specs.Ordering.{nat_cmp, ordering_then}
use Rattle.std.proofs.lemmas.Map.Keys.{Less-from_sorted}
use Rattle.plan_table.specs.Order.{ComesBefore}
use Rattle.where_index.specs.declared.spot_sets.Spot.{Spot}
use Rattle.where_index.specs.declared.passings.Passing.{Passing}
use Rattle.where_index.specs.Shown.{passing_cmp}
use Rattle.plan_table.proofs.Order.{Contains-nil, Contains-cons_head, Contains-cons_tail, Contains-cons_cases}
use Rattle.where_index.proofs.SpotOrder.{then_end}

-- ---- what is gathered from spots, by what each shows, and what those that are left show
module _ {K : Type 0} (R : Spot → K → Type 0) where
  abbrev pub Show : List Spot → K → Type 0
  Show spots x = (s : Spot) × Contains spots s × R s x

  abbrev pub Gathers : List K → List Spot → List Spot → List K → Type 0
  Gathers old spots left now = (x : K) → (Contains now x ⊎ Show left x) ↔ (Contains old x ⊎ Show spots x)

  pub gathers_none : (old : List K) (spots left : List Spot) → left ≡ spots → Gathers old spots left old
  gathers_none old spots left all x = grind arith

  pub gathers_more : (old now next : List K) (spots left rest : List Spot) (s : Spot) (k : K) → left ≡ s ∷ rest → ((x : K) → R s x ↔ (k ≡ x)) → Gathers old spots left now → ((x : K) → Contains next x ↔ (Contains now x ⊎ (x ≡ k))) → Gathers old spots rest next
  gathers_more old now next spots left rest s k steps shows inv gains x =
      let inv = rw steps at inv x in (
        (λ h. inv.0 (elim h [
          | inl there ↦ elim ((gains x).0 there) [ inl before ↦ inl before | inr is ↦ inr (s, Contains-cons_head s rest, (shows x).1 (sym is)) ]
          | inr w ↦ inr (w.0, Contains-cons_tail s rest w.0 w.1, w.2)
        ])),
        (λ h. elim (inv.1 h) [
          | inl before ↦ inl ((gains x).1 (inl before))
          | inr w ↦ elim (Contains-cons_cases s rest w.0 w.1) [
            | inl is ↦ inl ((gains x).1 (inr (sym ((shows x).0 (rw (← is) at w.2)))))
            | inr later ↦ inr (w.0, later, w.2)
          ]
        ]),
      )

  pub none_left : (left : List Spot) → left ≡ [] → (x : K) → Show left x → ⊥
  none_left left done x w = Contains-nil w.0 (subst (λ (l : List Spot). Contains l w.0) done w.1)

  pub gathers_all : (old now : List K) (spots left : List Spot) → ((x : K) → Show left x → ⊥) → Gathers old spots left now → (x : K) → Contains now x ↔ (Contains old x ⊎ Show spots x)
  gathers_all old now spots left none inv x = grind (arith, inv x, none x)

  -- two lists of spots gathered into an empty list
  pub gathers_two : (none one two : List K) (stands tails : List Spot) → none ≡ []
      → ((x : K) → Contains one x ↔ (Contains none x ⊎ Show stands x)) → ((x : K) → Contains two x ↔ (Contains one x ⊎ Show tails x))
      → (x : K) → Contains two x ↔ (Show stands x ⊎ Show tails x)
  gathers_two none one two stands tails empty g1 g2 x = grind (arith, g1 x, g2 x, Contains-nil x)

-- ---- strictly sorted lists ascend
pub agents_ascend : (agents : List ℕ) → IsStrictlySortedBy nat_cmp agents → AllPairs (λ a b. ComesBefore (a ∷ []) (b ∷ [])) agents
agents_ascend agents sorted i j d lt within = then_end _ ∙ Less-from_sorted nat_cmp agents i j d sorted lt within

pub passings_ascend : (passings : List Passing) → IsStrictlySortedBy passing_cmp passings → AllPairs (λ (p q : Passing). ComesBefore (p.time ∷ p.agent ∷ []) (q.time ∷ q.agent ∷ [])) passings
passings_ascend passings sorted i j d lt within =
    let p = get_or passings i d in
    let q = get_or passings j d in
    ap (λ o. ordering_then (nat_cmp p.time q.time) o) (then_end (nat_cmp p.agent q.agent)) ∙ Less-from_sorted passing_cmp passings i j d sorted lt within
