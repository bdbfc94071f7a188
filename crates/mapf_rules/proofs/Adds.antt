-- Entries that are added to a list in several steps.
use Rattle.std.proofs.Common.{◌≡◌, ℕ, ◌+◌, ◌<◌, ◌≤◌, List, [], length, Some, Option, refl, ◌⊎◌, inl, inr, arith}
use mathlib.Core.Logic.{◌↔◌}
use Rattle.std.specs.Prelude.{IsSome, IfSome}
use Rattle.std.specs.List.{Contains, slice_get}
use Rattle.grid_cells.specs.Cell.{Point}
use Rattle.plan_table.specs.Order.{ListsAll}
use Rattle.plan_table.specs.Plans.{agents_of}
use Rattle.plan_table.specs.Route.{Fleet, tracks_of}
use Rattle.plan_table.specs.declared.plans.Row.{Row}
use Rattle.plan_table.specs.declared.tracks.Mode.{Mode}
use Rattle.plan_table.proofs.Order.{Contains-nil}
use Rattle.plan_table.proofs.Fleets.{below_rank_more, all_agents, tracks_live}
use Rattle.mapf_rules.specs.ConflictList.{listing_key}
use Rattle.mapf_rules.specs.Finding.{Adds, Finds, FindsRing, StandsOfPair, StandsFirst}
use Rattle.mapf_rules.specs.declared.entries.Conflict.{Conflict}
use Rattle.mapf_rules.specs.declared.entries.Conflict.TheVariants.{Vertex, Parked, Edge, Following, Swapping, Cycle}

module _ {One Two : Conflict → Type 0} {a b : List Conflict} (one : Adds One a b) where
  -- one step after another
  pub adds_both : {c : List Conflict} → Adds Two b c → Adds (λ entry. One entry ⊎ Two entry) a c
  adds_both {c} two = record {
    keeps = λ e h. two.keeps e (one.keeps e h);
    has = λ e sought. elim sought [ inl first ↦ two.keeps e (one.has e first) | inr then ↦ two.has e then ];
    only = λ e h. grind (arith, two.only e h, one.only e);
  }

  -- what is sought in other words
  pub adds_as : ((entry : Conflict) → One entry ↔ Two entry) → Adds Two a b
  adds_as same = record {
    keeps = one.keeps;
    has = λ e sought. one.has e ((same e).1 sought);
    only = λ e h. elim (one.only e h) [ inl old ↦ inl old | inr found ↦ inr ((same e).0 found) ];
  }

-- what was added to no entries is listed
pub lists_added : (Sought : Conflict → Type 0) (new list : List Conflict) → Adds Sought [] new → ListsAll listing_key (Contains new) list → ListsAll listing_key Sought list
lists_added Sought new list adds lists = record {
  ascending = lists.ascending;
  exact = λ e. (
    λ h. elim (adds.only e ((lists.exact e).0 h)) [ inl old ↦ absurd (Contains-nil e old) | inr of ↦ of ],
    λ of. (lists.exact e).1 (adds.has e of),
  );
}

-- what is sought of an agent with a rank below that one
abbrev pub SoughtBelow : List (ℕ × Row) → (ℕ → Conflict → Type 0) → ℕ → Conflict → Type 0
SoughtBelow rows Each rank entry = (agent : ℕ) × (k : ℕ) × (k < rank) × (slice_get (agents_of rows) k ≡ Some agent) × Each agent entry

module _ (rows : List (ℕ × Row)) (Each : ℕ → Conflict → Type 0) (rank : ℕ) {a b : List Conflict} where
  pub adds_next : {c : List Conflict} {agent : ℕ} → slice_get (agents_of rows) rank ≡ Some agent → Adds (SoughtBelow rows Each rank) a b → Adds (Each agent) b c → Adds (SoughtBelow rows Each (rank + 1)) a c
  adds_next {c} {agent} at below here = adds_as (adds_both below here) (λ e. (
    λ found. elim found [ inl low ↦ (low.0, low.1, omega (arith, low.2), low.3, low.4) | inr of ↦ (agent, rank, omega arith, at, of) ],
    λ low. below_rank_more rows rank agent (λ q. Each q e → SoughtBelow rows Each rank e ⊎ Each agent e) at
        (λ q k lt is of. inl (q, k, lt, is, of)) (λ of. inr of) low.0 low.1 low.2 low.3 low.4,
  ))

  pub adds_all : (mode : Mode) → length rows ≤ rank → ((agent : ℕ) (entry : Conflict) → Each agent entry → IsSome (tracks_of mode rows agent)) → Adds (SoughtBelow rows Each rank) a b → Adds (λ entry. (agent : ℕ) × Each agent entry) a b
  adds_all mode within live below = adds_as below (λ e. (
    λ low. (low.0, low.4),
    λ of. all_agents rows rank (λ q. Each q e → SoughtBelow rows Each rank e) within (λ q k lt is each. (q, k, lt, is, each)) of.0 (tracks_live mode rows of.0 (live of.0 e of.1)) of.1,
  ))

-- the entries that name an agent first are those of it and another, and its ring
module _ (fleet : Fleet) (time first : ℕ) (ring : Option Conflict) where
  pub pair_or_ring : IfSome ring (StandsFirst fleet time first) → (entry : Conflict) → ((second : ℕ) × StandsOfPair fleet time first second entry) ⊎ (ring ≡ Some entry) → StandsFirst fleet time first entry
  pair_or_ring only entry found = grind arith

  pub first_found : FindsRing fleet time first ring → (entry : Conflict) → StandsFirst fleet time first entry → ((second : ℕ) × StandsOfPair fleet time first second entry) ⊎ (ring ≡ Some entry)
  first_found found (Cycle x r) is = inr (grind (arith, found r))
  first_found found entry is = inl (_, (is.0.0, (is.0.1, is.1, refl)))

-- an entry of the pair that stands is one of the three that were looked for
module _ (fleet : Fleet) (time first second : ℕ) (meeting moving following : Option Conflict) where
  abbrev pub IsFound : Conflict → Type 0
  IsFound entry = ((meeting ≡ Some entry) ⊎ (moving ≡ Some entry)) ⊎ (following ≡ Some entry)

  pub one_of_three : IfSome meeting (StandsOfPair fleet time first second) → IfSome moving (StandsOfPair fleet time first second) → IfSome following (StandsOfPair fleet time first second)
      → (entry : Conflict) → IsFound entry → StandsOfPair fleet time first second entry
  one_of_three meets moves follows entry found = grind arith

  pub pair_found : ((c : Point) → Finds fleet meeting (Vertex time first second c)) → ((c : Point) → Finds fleet meeting (Parked time first second c))
      → ((c n : Point) → Finds fleet moving (Edge time first second c n)) → ((c n : Point) → Finds fleet moving (Swapping time first second c n))
      → ((c : Point) → Finds fleet following (Following time first second c)) → (entry : Conflict) → StandsOfPair fleet time first second entry → IsFound entry
  pair_found vertex parked edge swapping follows (Vertex x a b c) is = inl (inl (grind (arith, vertex c)))
  pair_found vertex parked edge swapping follows (Parked x a b c) is = inl (inl (grind (arith, parked c)))
  pair_found vertex parked edge swapping follows (Edge x a b c n) is = inl (inr (grind (arith, edge c n)))
  pair_found vertex parked edge swapping follows (Swapping x a b c n) is = inl (inr (grind (arith, swapping c n)))
  pair_found vertex parked edge swapping follows (Following x a b c) is = inr (grind (arith, follows c))
  pair_found vertex parked edge swapping follows (Cycle x r) is = absurd is.1
