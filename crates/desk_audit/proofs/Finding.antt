-- Entries found in several steps.
use Rattle.std.proofs.Common.{◌≡◌, ℕ, ◌+◌, ◌<◌, ◌≤◌, List, [], ◌∷◌, ◌++◌, length, get_or, take, Some, subst, ◌⊎◌, inl, inr, arith}
use Rattle.std.specs.List.{Contains}
use Rattle.std.proofs.lemmas.List.{take_more}
use Rattle.std.proofs.lemmas.List.Elements.{Contains-append_left, Contains-append_right, Contains-append_cases, Contains-push, Contains-push_cases}
use Rattle.plan_table.specs.Order.{ListsAll}
use Rattle.plan_table.specs.Route.{Fleet, last_of}
use Rattle.mapf_rules.specs.ConflictList.{Stands, listing_key}
use Rattle.mapf_rules.specs.Naming.{IsOfPair, first_agent}
use Rattle.mapf_rules.specs.declared.entries.Conflict.{Conflict}
use Rattle.desk_audit.specs.Parts.{IsRanked, AreEntriesOf}
use Rattle.desk_audit.specs.Seeking.{FindsAll, IsOfMet, IsOfPassed}
use Rattle.std.specs.List.{slice_get}
use Rattle.std.proofs.lemmas.Bool.{cases_lt}
use Rattle.std.proofs.lemmas.Option.{slice_get_cases}
use Rattle.plan_table.specs.Plans.{agents_of}
use Rattle.plan_table.specs.declared.plans.Row.{Row}
use Rattle.plan_table.proofs.Order.{Contains-nil}
use Rattle.plan_table.proofs.Fleets.{agent_at_rank}
use Rattle.desk_audit.specs.declared.tables.Pass.{Pass}

pub first_of_pair : (entry : Conflict) (time first second : ℕ) → IsOfPair entry time first second → first_agent entry ≡ first
first_of_pair entry time first second of = grind arith

module _ (fleet : Fleet) (agent : ℕ) where
  pub finds_none : (old : List Conflict) (Sought : Conflict → Type 0) → ((entry : Conflict) → Stands fleet entry → Sought entry → ⊥) → FindsAll fleet agent old old Sought
  finds_none old Sought none = grind (arith, none)

  pub finds_as : (old new : List Conflict) (Sought Other : Conflict → Type 0) → ((entry : Conflict) → Stands fleet entry → Other entry → Sought entry) → FindsAll fleet agent old new Sought → FindsAll fleet agent old new Other
  finds_as old new Sought Other gives finds = grind (arith, gives, finds.keeps, finds.only, finds.has)

  -- one search after another
  pub finds_then : (old mid new : List Conflict) (One Two Sought : Conflict → Type 0) → FindsAll fleet agent old mid One → FindsAll fleet agent mid new Two → ((entry : Conflict) → Stands fleet entry → Sought entry → One entry ⊎ Two entry) → FindsAll fleet agent old new Sought
  finds_then old mid new One Two Sought first then splits = record {
    keeps = λ e h. then.keeps e (first.keeps e h);
    only = λ e h. grind (arith, then.only e h, first.only e);
    has = λ e stands sought. grind (arith, splits e stands sought, then.keeps e, first.has e stands, then.has e stands);
  }

  pub finds_pair : (time second : ℕ) (old found new : List Conflict) → new ≡ old ++ found → ListsAll listing_key (λ entry. Stands fleet entry × IsOfPair entry time agent second) found → FindsAll fleet agent old new (λ entry. IsOfPair entry time agent second)
  finds_pair time second old found new is lists = rw is (record {
    keeps = λ e h. Contains-append_left old found e h;
    only = λ e h. elim (Contains-append_cases old found e h) [
      | inl in_old ↦ inl in_old
      | inr in_found ↦ let exact = (lists.exact e).0 in_found in inr (exact.0, first_of_pair e time agent second exact.1)
    ];
    has = λ e stands of. Contains-append_right old found e ((lists.exact e).1 (stands, of));
  })

  pub finds_one : (entry : Conflict) (old : List Conflict) (Sought : Conflict → Type 0) → Stands fleet entry → first_agent entry ≡ agent → ((e : Conflict) → Stands fleet e → Sought e → entry ≡ e) → FindsAll fleet agent old (old ++ entry ∷ []) Sought
  finds_one entry old Sought stands first only = record {
    keeps = λ e h. Contains-append_left old (entry ∷ []) e h;
    only = λ e h. elim (Contains-push_cases old entry e h) [
      | inl in_old ↦ inl in_old
      | inr is ↦ inr (subst (λ (q : Conflict). Stands fleet q × (first_agent q ≡ agent)) is (stands, first))
    ];
    has = λ e sound sought. subst (Contains (old ++ entry ∷ [])) (only e sound sought) (Contains-push old entry);
  }

taken_cases : {X : Type 0} (xs : List X) (i : ℕ) (x y : X) → x ≡ get_or xs i x → i < length xs → Contains (take (i + 1) xs) y → Contains (take i xs) y ⊎ (x ≡ y)
taken_cases xs i x y is within h = Contains-push_cases (take i xs) x y (rw (← is) at (rw (take_more xs i x within) at h))

-- an entry of one that is met, among those up to an index
pub met_split : (time agent : ℕ) (met : List Pass) (i : ℕ) (pass : Pass) → pass ≡ get_or met i pass → i < length met → (entry : Conflict) → IsOfMet time agent (take (i + 1) met) entry → IsOfMet time agent (take i met) entry ⊎ ((pass.time ≤ time) × IsOfPair entry time agent pass.agent)
met_split time agent met i pass is within entry of = grind (arith, taken_cases met i pass of.other is within of.listed)

pub passed_split : (fleet : Fleet) (after agent : ℕ) (passes : List Pass) (i : ℕ) (pass : Pass) → pass ≡ get_or passes i pass → i < length passes → (entry : Conflict) → IsOfPassed fleet after agent (take (i + 1) passes) entry → IsOfPassed fleet after agent (take i passes) entry ⊎ ((after < pass.time) × (pass.time ≤ last_of fleet pass.agent) × IsOfPair entry pass.time agent pass.agent)
passed_split fleet after agent passes i pass is within entry of = grind (arith, taken_cases passes i pass of.other is within of.listed)

pub widen : (rows : List (ℕ × Row)) (from at to agent : ℕ) → at ≤ to → IsRanked rows from at agent → IsRanked rows from to agent
widen rows from at to agent le is = record { rank = is.rank; late = is.late; early = omega (arith, is.early); at = is.at }

-- whoever has a rank in one of two ranges that follow one another has it in the whole
pub ranked_or : (rows : List (ℕ × Row)) (from at to agent : ℕ) → IsRanked rows from to agent → IsRanked rows from at agent ⊎ IsRanked rows at to agent
ranked_or rows from at to agent is = elim (cases_lt is.rank at) [
  | inl lower ↦ inl (record { rank = is.rank; late = is.late; early = lower; at = is.at })
  | inr higher ↦ inr (record { rank = is.rank; late = higher; early = is.early; at = is.at })
]

pub later_rank : (rows : List (ℕ × Row)) (from at to agent : ℕ) → from ≤ at → IsRanked rows at to agent → IsRanked rows from to agent
later_rank rows from at to agent le is = record { rank = is.rank; late = omega (arith, is.late); early = is.early; at = is.at }

-- the entries of an agent at a rank, after those of the agents before it
pub ranked_more : (fleet : Fleet) (rows : List (ℕ × Row)) (from rank agent : ℕ) (old new : List Conflict) → from ≤ rank → slice_get (agents_of rows) rank ≡ Some agent → FindsAll fleet agent old new (λ entry. first_agent entry ≡ agent) → AreEntriesOf fleet rows from rank old → AreEntriesOf fleet rows from (rank + 1) new
ranked_more fleet rows from rank agent old new le at finds exact entry = (
  λ h. elim (finds.only entry h) [
    | inl in_old ↦ let before = (exact entry).0 in_old in (before.0, widen rows from rank (rank + 1) (first_agent entry) (omega arith) before.1)
    | inr is ↦ (is.0, record { rank = rank; late = le; early = omega arith; at = grind arith })
  ],
  λ h. elim (ranked_or rows from rank (rank + 1) (first_agent entry) h.1) [
    | inl lower ↦ finds.keeps entry ((exact entry).1 (h.0, lower))
    | inr here ↦ finds.has entry h.0 (grind (arith, here))
  ],
)

pub ranked_none : (fleet : Fleet) (rows : List (ℕ × Row)) (from : ℕ) → AreEntriesOf fleet rows from from []
ranked_none fleet rows from entry = grind (arith, Contains-nil entry)

-- each rank has an agent
pub some_agent : (rows : List (ℕ × Row)) (rank : ℕ) → rank < length rows → (agent : ℕ) × (slice_get (agents_of rows) rank ≡ Some agent)
some_agent rows rank within = grind (arith, slice_get_cases (agents_of rows) rank, agent_at_rank rows rank within)
