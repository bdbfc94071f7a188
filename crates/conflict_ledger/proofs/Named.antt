-- The entries that name one agent, from those of two agents and the rings that its moves join; and those that name one of several.
use Rattle.std.proofs.Common.{◌≡◌, inl, inr, ℕ, List, [], ◌∷◌, ◌++◌, Contains, Option, Some, None, sym, subst, arith}
use Rattle.std.specs.Prelude.{IsSome}
use mathlib.Core.Bool.{false≢true}
use mathlib.Core.Logic.{◌↔◌}
use Rattle.std.proofs.lemmas.List.Elements.{Contains-append_cases, Contains-append_left, Contains-append_right}
use Rattle.plan_table.specs.Route.{Route, Fleet}
use Rattle.plan_table.specs.Order.{ListsAll}
use Rattle.plan_table.proofs.Order.{Contains-nil, Contains-cons_head, Contains-cons_cases}
use Rattle.where_index.specs.Index.{Contents, with_route}
use Rattle.mapf_rules.specs.ConflictList.{Stands, listing_key}
use Rattle.mapf_rules.specs.Naming.{Names, IsPair, time_of}
use Rattle.mapf_rules.specs.Laws.{HasStep}
use Rattle.mapf_rules.specs.declared.entries.Conflict.{Conflict}
use Rattle.mapf_rules.specs.declared.entries.Conflict.TheVariants.{Cycle}
use Rattle.mapf_rules.proofs.LawsHold.{named}
use Rattle.conflict_ledger.specs.Change.{SameBut}
use Rattle.conflict_ledger.specs.Gathering.{AreAgents}
use Rattle.conflict_ledger.specs.Sight.{Shows}
use Rattle.conflict_ledger.specs.Spans.{IsIn}
use Rattle.conflict_ledger.specs.Turns.{IsLeft, IsLeftAt, IsToldAt}
use Rattle.conflict_ledger.specs.Named.{HasNamed, HasNamedOnes, AreNamed}
use Rattle.conflict_ledger.specs.declared.spans.Span.{Span}
use Rattle.conflict_ledger.specs.declared.turns.Turn.TheVariants.{Joined}
use Rattle.conflict_ledger.proofs.Sighted.{hidden, but_hidden}
use Rattle.conflict_ledger.proofs.Turning.{joined_has, joined_in, told_joined}

module _ (index : Contents) (agent : ℕ) (route : Route) (fleet : Fleet) (shows : Shows index agent (Some route) fleet) where
  hides : Shows index agent None (with_route fleet agent None)
  hides = hidden index agent (Some route) fleet shows

  same : SameBut (with_route fleet agent None) fleet agent
  same = but_hidden fleet agent

  module _ (span : Span) (every : (time : ℕ) → IsIn span time) (pairs rings : List Conflict) (are : AreAgents fleet agent span pairs)
      (only : (e : Conflict) → Contains rings e → IsLeft fleet (Some route) e × IsToldAt Joined pairs agent (time_of e))
      (has : (e : Conflict) → IsLeft fleet (Some route) e → IsToldAt Joined pairs agent (time_of e) → Contains rings e) where
    -- the agent has an entry that tells of each ring that it is in
    told : (x : ℕ) (r : List ℕ) → IsLeftAt fleet (Some route) x r → IsToldAt Joined pairs agent x
    told x r left =
        let w = told_joined _ _ _ _ _ hides shows same x r left in
        record { entry = w.0; has = are.has w.0 w.1 (every (time_of w.0)); at = w.2; may = w.3 }

    pair_named : (e : Conflict) → IsPair e → (IsLeft fleet (Some route) e → ⊥) → Contains (pairs ++ rings) e ↔ (Stands fleet e × Names e agent)
    pair_named e pair none = (
      λ h. elim (Contains-append_cases pairs rings e h) [
        | inl p ↦ let is = (are.only e p).0 in (is.stands, is.names)
        | inr ring ↦ absurd (none (only e ring).0)
      ],
      λ w. Contains-append_left pairs rings e (are.has e (record { stands = w.0; pair = pair; names = w.1 }) (every (time_of e))),
    )

    pub named_all : HasNamed fleet agent (pairs ++ rings)
    named_all (Cycle x r) = (
      λ h. elim (Contains-append_cases pairs rings (Cycle x r) h) [
        | inl p ↦ absurd (are.only (Cycle x r) p).0.pair
        | inr ring ↦ let left = (only (Cycle x r) ring).0 in (left.round.round, joined_in _ _ _ _ _ hides shows same x r left)
      ],
      λ w. let left = joined_has _ _ _ _ _ hides shows same x r w.0 w.1 in Contains-append_right pairs rings (Cycle x r) (has (Cycle x r) left (told x r left)),
    )
    named_all e = pair_named e tt (λ h. h)

-- ---- whoever an entry names is of the fleet
named_live : (fleet : Fleet) (entry : Conflict) (agent : ℕ) → Stands fleet entry → Names entry agent → IsSome (fleet agent)
named_live fleet (Cycle x r) agent stands has = grind (arith, (named fleet (Cycle x r) stands agent has).0)
named_live fleet entry agent stands has = grind arith

-- an agent that isn't there is named by no entry
pub named_none : (fleet : Fleet) (agent : ℕ) → fleet agent ≡ None → HasNamed fleet agent []
named_none fleet agent none entry = (
  λ h. absurd (Contains-nil entry h),
  λ w. let there : IsSome (fleet agent) = named_live fleet entry agent w.0 w.1 in absurd (false≢true (subst IsSome none there)),
)

-- ---- from agent to agent
pub no_ones : (fleet : Fleet) → HasNamedOnes fleet [] []
no_ones fleet entry = (λ h. absurd (Contains-nil entry h), λ w. absurd (Contains-nil w.1.agent w.1.among))

the_one : (agent other : ℕ) → Contains (agent ∷ []) other → agent ≡ other
the_one agent other has = elim (Contains-cons_cases agent [] other has) [ inl same ↦ same | inr none ↦ absurd (Contains-nil other none) ]

pub one_more : (fleet : Fleet) (agents : List ℕ) (agent : ℕ) (entries named : List Conflict) → HasNamedOnes fleet agents entries → HasNamed fleet agent named
    → HasNamedOnes fleet (agents ++ agent ∷ []) (entries ++ named)
one_more fleet agents agent entries named has more entry = (
  λ h. elim (Contains-append_cases entries named entry h) [
    | inl before ↦ let w = (has entry).0 before in (w.0, record { agent = w.1.agent; among = Contains-append_left agents (agent ∷ []) w.1.agent w.1.among; named = w.1.named })
    | inr last ↦ let w = (more entry).0 last in (w.0, record { agent = agent; among = Contains-append_right agents (agent ∷ []) agent (Contains-cons_head agent []); named = w.1 })
  ],
  λ w. elim (Contains-append_cases agents (agent ∷ []) w.1.agent w.1.among) [
    | inl before ↦ Contains-append_left entries named entry ((has entry).1 (w.0, record { agent = w.1.agent; among = before; named = w.1.named }))
    | inr last ↦ Contains-append_right entries named entry ((more entry).1 (w.0, subst (Names entry) (sym (the_one agent w.1.agent last)) w.1.named))
  ],
)

pub listed_named : (fleet : Fleet) (agents : List ℕ) (found list : List Conflict) → HasNamedOnes fleet agents found → ListsAll listing_key (Contains found) list → AreNamed fleet agents list
listed_named fleet agents found list has lists = record {
  ascending = lists.ascending;
  exact = λ e. (λ h. (has e).0 ((lists.exact e).0 h), λ w. (lists.exact e).1 ((has e).1 w));
}
