-- Rings are found by going from each agent to the next.
use Rattle.std.proofs.Common.{◌≡◌, ◌≢◌, ℕ, ◌+◌, ◌-◌, ◌<◌, ◌≤◌, ◌%◌, List, [], ◌∷◌, ◌++◌, length, get_or, refl, sym, ap, subst, ◌∙◌, inl, inr, true, false, arith, length-append}
use Rattle.std.specs.Prelude.{slice_index}
use Rattle.std.specs.List.{Contains}
use Rattle.std.proofs.lemmas.Bool.{cases_lt}
use Rattle.std.proofs.lemmas.Option.{same_Some}
use Rattle.std.proofs.lemmas.List.{same_lists, get_or_default, get_or_append_left, get_or_push}
use Rattle.std.proofs.lemmas.List.Elements.{All-push}
use Rattle.plan_table.specs.Route.{Fleet, position_of}
use Rattle.mapf_rules.specs.Cycles.{MovesOut, Follows, IsRing}
use Rattle.std.specs.Ordering.{is_lt, nat_cmp}
use Rattle.std.proofs.lemmas.Bool.Decides.{nat_tests}
use Rattle.mapf_rules.specs.RingWalk.{IsNext, IsChain, BeginsWith}
use Rattle.mapf_rules.proofs.RingOrder.{IsNext-unique, after_inside, after_end, ring_next, has_before}
use Rattle.mapf_rules.proofs.Distinct.{distinct_more}

module _ (fleet : Fleet) (time first : ℕ) (chain : List ℕ) (is : IsChain fleet time first chain) where
  module _ (ring : List ℕ) (round : IsRing fleet time ring) (begins : BeginsWith ring chain) where
    -- the ring's agent at the chain's end
    same_last : slice_index ring (length chain - 1) ≡ slice_index chain (length chain - 1)
    same_last = begins.same (length chain - 1) (omega (arith, is.some_agent))

    -- the chain's last agent has a next, and it is the ring's
    pub last_next : IsNext fleet time (slice_index chain (length chain - 1)) (slice_index ring ((length chain - 1 + 1) % length ring))
    last_next = subst (λ a. IsNext fleet time a (slice_index ring ((length chain - 1 + 1) % length ring))) same_last (ring_next fleet time ring round (length chain - 1) (omega (arith, is.some_agent, begins.long)))

    module _ (next : ℕ) (follows : IsNext fleet time (slice_index chain (length chain - 1)) next) where
      ring_goes_on : slice_index ring ((length chain - 1 + 1) % length ring) ≡ next
      ring_goes_on = IsNext-unique fleet time (slice_index chain (length chain - 1)) _ next last_next follows

      -- a longer ring goes on with the next
      pub longer_next : length chain < length ring → slice_index ring (length chain) ≡ next
      longer_next longer = grind (arith, ring_goes_on, after_inside (length chain - 1) (length ring), is.some_agent)

      -- a ring of the chain's length comes back to the first
      pub equal_next : length chain ≡ length ring → next ≡ slice_index ring 0
      equal_next same = grind (arith, ring_goes_on, after_end (length chain - 1) (length ring), is.some_agent)

      -- so where the next is not the first, the ring begins with the chain and the next
      pub begins_more : slice_index ring 0 ≡ first → next ≢ first → BeginsWith ring (chain ++ next ∷ [])
      begins_more starts differs =
          let n : length (chain ++ next ∷ []) ≡ length chain + 1 = length-append chain (next ∷ []) in
          elim (cases_lt (length chain) (length ring)) [
            | inr full ↦ absurd (differs (equal_next (omega (arith, begins.long)) ∙ starts))
            | inl longer ↦ record {
              long = omega arith;
              same = λ k within. elim (cases_lt k (length chain)) [
                | inl old ↦ begins.same k old ∙ sym (get_or_append_left chain (next ∷ []) 0 k old)
                | inr new ↦
                    let end : k ≡ length chain = omega arith in
                    rw end (longer_next longer ∙ sym (get_or_push chain next 0 (length chain) refl))
              ];
            }
          ]

      -- where the next is the first, the ring is the chain
      pub ring_is_chain : slice_index ring 0 ≡ first → next ≡ first → ring ≡ chain
      ring_is_chain starts comes_back =
          elim (cases_lt (length chain) (length ring)) [
            | inl longer ↦
                let again : slice_index ring 0 ≡ slice_index ring (length chain) = starts ∙ sym comes_back ∙ sym (longer_next longer) in
                absurd (round.distinct 0 (length chain) 0 (omega (arith, is.some_agent)) longer again)
            | inr full ↦ same_lists ring chain (omega (arith, begins.long)) (λ k d within.
                get_or_default ring k d 0 within ∙ begins.same k (omega (arith, begins.long)) ∙ sym (get_or_default chain k d 0 (omega (arith, begins.long))))
          ]

-- the chain with one more agent
module _ (fleet : Fleet) (time first next : ℕ) (chain : List ℕ) (is : IsChain fleet time first chain) where
  old_agent : (k : ℕ) → k < length chain → slice_index (chain ++ next ∷ []) k ≡ slice_index chain k
  old_agent k within = get_or_append_left chain (next ∷ []) 0 k within

  new_agent : slice_index (chain ++ next ∷ []) (length chain) ≡ next
  new_agent = get_or_push chain next 0 (length chain) refl

  new_links : IsNext fleet time (slice_index chain (length chain - 1)) next → (k : ℕ) → k + 1 < length (chain ++ next ∷ []) → IsNext fleet time (slice_index (chain ++ next ∷ []) k) (slice_index (chain ++ next ∷ []) (k + 1))
  new_links follows k within =
      let n : length (chain ++ next ∷ []) ≡ length chain + 1 = length-append chain (next ∷ []) in
      elim (cases_lt (k + 1) (length chain)) [
        | inl old ↦ rw (old_agent k (omega arith), old_agent (k + 1) old) (is.links k old)
        | inr new ↦
            let at_end : k + 1 ≡ length chain = omega arith in
            let at_last : length chain - 1 ≡ k = omega arith in
            rw (old_agent k (omega arith), at_end, new_agent) (subst (λ q. IsNext fleet time (slice_index chain q) next) at_last follows)
      ]

  pub chain_more : IsNext fleet time (slice_index chain (length chain - 1)) next → first ≤ next → (Contains chain next → ⊥) → IsChain fleet time first (chain ++ next ∷ [])
  chain_more follows above absent =
      let n : length (chain ++ next ∷ []) ≡ length chain + 1 = length-append chain (next ∷ []) in
      record {
        some_agent = omega arith;
        starts = old_agent 0 is.some_agent ∙ is.starts;
        links = new_links follows;
        distinct = distinct_more chain next is.distinct absent;
        above = All-push (λ a. first ≤ a) chain next is.above above;
      }

-- a chain that comes back to its first agent is a ring
module _ (fleet : Fleet) (time first : ℕ) (chain : List ℕ) (is : IsChain fleet time first chain) (back : IsNext fleet time (slice_index chain (length chain - 1)) first) where
  -- each agent of the chain has the one after it, round the ring, as its next
  round_link : (k : ℕ) → k < length chain → IsNext fleet time (slice_index chain k) (slice_index chain ((k + 1) % length chain))
  round_link k within =
      elim (cases_lt (k + 1) (length chain)) [
        | inl inside ↦ rw (after_inside k (length chain) inside) (is.links k inside)
        | inr end ↦
            let at_last : length chain - 1 ≡ k = omega arith in
            rw (after_end k (length chain) (omega arith), is.starts) (subst (λ q. IsNext fleet time (slice_index chain q) first) at_last back)
      ]

  following : (k : ℕ) → k < length chain → (a : ℕ) → a ≢ slice_index chain k → IsNext fleet time (slice_index chain k) a → Follows fleet time (slice_index chain k) a
  following k within a differs next = (next.cell, record { two = λ same. differs (sym same); leader_there = next.sole.moves.from; leader_goes_on = next.sole.moves.goes_on; follower_to = next.to; moves = next.moves })

  round_differs : 3 ≤ length chain → (k : ℕ) → k < length chain → slice_index chain ((k + 1) % length chain) ≢ slice_index chain k
  round_differs three k within same =
      grind (arith, is.distinct k (k + 1) 0, is.distinct 0 k 0, after_inside k (length chain), after_end k (length chain))

  pub ring_of_chain : 3 ≤ length chain → IsRing fleet time chain
  ring_of_chain three = record {
    three = three;
    distinct = is.distinct;
    least_first = λ k d within. let low : first ≤ get_or chain k d = is.above k d within in omega (arith, is.starts);
    round = λ k within. following k within (slice_index chain ((k + 1) % length chain)) (round_differs three k within) (round_link k within);
    alone = λ member other cell (k, within, at) there out.
        let link = has_before fleet time chain round_link k within in
        let here : slice_index chain k ≡ member = get_or_default chain k 0 member within ∙ at in
        let cells : link.1.cell ≡ cell = same_Some _ _ (sym link.1.sole.moves.from ∙ ap (λ a. position_of fleet a time) here ∙ there) in
        link.1.sole.only other (subst (MovesOut fleet time other) (sym cells) out) ∙ here;
  }

-- where a ring cannot go on as the chain does
module _ (fleet : Fleet) (time first next : ℕ) (chain : List ℕ) (is : IsChain fleet time first chain) (follows : IsNext fleet time (slice_index chain (length chain - 1)) next)
    (differs : next ≢ first) (ring : List ℕ) (round : IsRing fleet time ring) (starts : slice_index ring 0 ≡ first) (begins : BeginsWith ring chain) where
  more : BeginsWith ring (chain ++ next ∷ [])
  more = begins_more fleet time first chain is ring round begins next follows starts differs

  n : length (chain ++ next ∷ []) ≡ length chain + 1
  n = length-append chain (next ∷ [])

  at_end : slice_index ring (length chain) ≡ next
  at_end = let long : length (chain ++ next ∷ []) ≡ length chain + 1 = n in more.same (length chain) (omega arith) ∙ get_or_push chain next 0 (length chain) refl

  inside : length chain < length ring
  inside = let long : length (chain ++ next ∷ []) ≡ length chain + 1 = n in omega (arith, more.long)

  pub none_below : next < first → ⊥
  none_below low = grind (arith, round.least_first (length chain) 0 inside, at_end)

  pub none_again : Contains chain next → ⊥
  none_again (k, within, at) =
      grind (arith, begins.same k within, get_or_default chain k 0 next within, round.distinct k (length chain) 0 within inside, at_end)

pub lt_says : (a b : ℕ) → true ≡ is_lt (nat_cmp a b) → a < b
lt_says a b h = grind (arith, nat_tests)

pub not_lt_says : (a b : ℕ) → false ≡ is_lt (nat_cmp a b) → b ≤ a
not_lt_says a b h = grind (arith, nat_tests)
