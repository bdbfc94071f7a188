-- The entries that name one of some agents are the conflict list, kept where it does.
use Rattle.std.proofs.Common.{◌≡◌, ◌⊎◌, ◌<◌, ◌+◌, ◌++◌, cond, get_or, length, take, append-nil, ℕ, List, [], ◌∷◌, Contains, Bool, true, false, ◌||◌, nat_eq, inl, inr, refl, sym, ap, subst, ◌∙◌, arith}
use mathlib.Core.Bool.{false≢true}
use mathlib.Core.Logic.{◌↔◌}
use Rattle.std.specs.List.{filter, list_any}
use Rattle.std.proofs.lemmas.Bool.Decides.{nat_tests}
use Rattle.std.proofs.lemmas.List.Elements.{filter_more}
use Rattle.std.proofs.lemmas.List.Kept.{AllPairs-filter}
use Rattle.plan_table.specs.Order.{ComesBefore, ListsAll}
use Rattle.plan_table.specs.Route.{Fleet}
use Rattle.plan_table.proofs.Order.{Contains-cons_cases, Contains-cons_head, Contains-cons_tail, Contains-nil, ListsAll-unique}
use Rattle.where_index.proofs.Filtering.{filter_keeps}
use Rattle.mapf_rules.specs.ConflictList.{AreConflicts, Stands, listing_key}
use Rattle.mapf_rules.specs.Naming.{Names}
use Rattle.mapf_rules.specs.declared.entries.Conflict.{Conflict}
use Rattle.mapf_rules.specs.declared.entries.Conflict.TheVariants.{Vertex, Parked, Edge, Following, Swapping, Cycle}
use Rattle.conflict_ledger.specs.Named.{AreNamed, NamesOne}
use Rattle.desk_report.specs.Cut.{is_one, names_one}

-- ---- the test is the relation
or_cases : (p q : Bool) → (p || q) ≡ true → (p ≡ true) ⊎ (q ≡ true)
or_cases true q h = inl refl
or_cases false q h = inr h

or_left : (p q : Bool) → p ≡ true → (p || q) ≡ true
or_left true q h = refl
or_left false q h = absurd (false≢true h)

or_right : (p q : Bool) → q ≡ true → (p || q) ≡ true
or_right true q h = refl
or_right false q h = h

pub one_is : (agents : List ℕ) (a : ℕ) → is_one agents a ≡ true ↔ Contains agents a
one_is [] a = grind (arith, Contains-nil a)
one_is (x ∷ xs) a = grind (arith, nat_tests, one_is xs a, Contains-cons_head x xs, Contains-cons_tail x xs a, Contains-cons_cases x xs a)

-- one of two agents is among them
either_is : (agents : List ℕ) (first second : ℕ) → (is_one agents first || is_one agents second) ≡ true ↔ ((a : ℕ) × Contains agents a × ((first ≡ a) ⊎ (second ≡ a)))
either_is agents first second = (
  λ h. elim (or_cases (is_one agents first) (is_one agents second) h) [
    | inl one ↦ (first, (one_is agents first).0 one, inl refl)
    | inr other ↦ (second, (one_is agents second).0 other, inr refl)
  ],
  λ w. elim w.2 [
    | inl same ↦ or_left (is_one agents first) (is_one agents second) ((one_is agents first).1 (subst (Contains agents) (sym same) w.1))
    | inr same ↦ or_right (is_one agents first) (is_one agents second) ((one_is agents second).1 (subst (Contains agents) (sym same) w.1))
  ],
)

ring_is : (agents ring : List ℕ) → list_any (is_one agents) ring ≡ true ↔ ((a : ℕ) × Contains agents a × Contains ring a)
ring_is agents [] = (λ h. absurd (false≢true h), λ w. absurd (Contains-nil w.0 w.2))
ring_is agents (x ∷ xs) =
    let rest = ring_is agents xs in (
      λ h. elim (or_cases (is_one agents x) (list_any (is_one agents) xs) h) [
        | inl one ↦ (x, (one_is agents x).0 one, Contains-cons_head x xs)
        | inr more ↦ let w = rest.0 more in (w.0, w.1, Contains-cons_tail x xs w.0 w.2)
      ],
      λ w. elim (Contains-cons_cases x xs w.0 w.2) [
        | inl same ↦ or_left (is_one agents x) (list_any (is_one agents) xs) ((one_is agents x).1 (subst (Contains agents) (sym same) w.1))
        | inr more ↦ or_right (is_one agents x) (list_any (is_one agents) xs) (rest.1 (w.0, w.1, more))
      ],
    )

made : (agents : List ℕ) (entry : Conflict) → ((a : ℕ) × Contains agents a × Names entry a) → NamesOne agents entry
made agents entry w = record { agent = w.0; among = w.1; named = w.2 }

read : (agents : List ℕ) (entry : Conflict) → NamesOne agents entry → (a : ℕ) × Contains agents a × Names entry a
read agents entry one = (one.agent, one.among, one.named)

names_is : (agents : List ℕ) (entry : Conflict) → names_one agents entry ≡ true ↔ NamesOne agents entry
names_is agents (Cycle x ring) = (λ h. made agents (Cycle x ring) ((ring_is agents ring).0 h), λ one. (ring_is agents ring).1 (read agents (Cycle x ring) one))
names_is agents (Vertex x a b p) = (λ h. made agents (Vertex x a b p) ((either_is agents a b).0 h), λ one. (either_is agents a b).1 (read agents (Vertex x a b p) one))
names_is agents (Parked x a b p) = (λ h. made agents (Parked x a b p) ((either_is agents a b).0 h), λ one. (either_is agents a b).1 (read agents (Parked x a b p) one))
names_is agents (Edge x a b p q) = (λ h. made agents (Edge x a b p q) ((either_is agents a b).0 h), λ one. (either_is agents a b).1 (read agents (Edge x a b p q) one))
names_is agents (Following x a b p) = (λ h. made agents (Following x a b p) ((either_is agents a b).0 h), λ one. (either_is agents a b).1 (read agents (Following x a b p) one))
names_is agents (Swapping x a b p q) = (λ h. made agents (Swapping x a b p q) ((either_is agents a b).0 h), λ one. (either_is agents a b).1 (read agents (Swapping x a b p q) one))

-- ---- the list, kept
kept_named : (fleet : Fleet) (agents : List ℕ) (entries : List Conflict) → AreConflicts fleet entries → AreNamed fleet agents (filter (names_one agents) entries)
kept_named fleet agents entries are = record {
  ascending = AllPairs-filter (λ (a b : Conflict). ComesBefore (listing_key a) (listing_key b)) (names_one agents) entries are.ascending;
  exact = λ e. let kept = filter_keeps (names_one agents) entries e in (
    λ h. ((are.exact e).0 (kept.0 h).0, (names_is agents e).0 (kept.0 h).1),
    λ w. kept.1 ((are.exact e).1 w.0, (names_is agents e).1 w.1),
  );
}

pub named_is_kept : (fleet : Fleet) (agents : List ℕ) (entries named : List Conflict) → AreConflicts fleet entries → AreNamed fleet agents named → named ≡ filter (names_one agents) entries
named_is_kept fleet agents entries named are has =
    ListsAll-unique listing_key (λ (e : Conflict). Stands fleet e × NamesOne agents e) named (filter (names_one agents) entries) has (kept_named fleet agents entries are)

-- ---- what passes a test, element by element
module _ {X : Type 0} (p : X → Bool) (xs : List X) (i : ℕ) (x : X) (within : i < length xs) (here : x ≡ get_or xs i x) (kept : List X) (was : kept ≡ filter p (take i xs)) where
  one_more : (b : Bool) → p x ≡ b → filter p (take (i + 1) xs) ≡ filter p (take i xs) ++ cond b (x ∷ []) []
  one_more b is = filter_more p xs i x within ∙ ap (λ y. filter p (take i xs) ++ cond (p y) (y ∷ []) []) (sym here) ∙ ap (λ t. filter p (take i xs) ++ cond t (x ∷ []) []) is

  pub passes_more : p x ≡ true → kept ++ x ∷ [] ≡ filter p (take (i + 1) xs)
  passes_more passes = ap (λ l. l ++ x ∷ []) was ∙ sym (one_more true passes)

  pub fails_more : p x ≡ false → kept ≡ filter p (take (i + 1) xs)
  fails_more fails = was ∙ sym (append-nil (filter p (take i xs))) ∙ sym (one_more false fails)
