-- The entries of a fleet after one route is put in or taken out.
use Rattle.std.proofs.Common.{◌≡◌, ◌≢◌, ◌⊎◌, inl, inr, ℕ, ◌+◌, ◌<◌, ◌%◌, List, length, Some, None, refl, sym, ap, ◌∙◌, subst, arith}
use mathlib.Core.Logic.{◌↔◌}
use Rattle.std.specs.Prelude.{false}
use Rattle.std.specs.Option.{unwrap_or, option_map, option_and_then}
use Rattle.std.specs.List.{Contains}
use Rattle.std.proofs.lemmas.List.Elements.{Contains-get_or}
use Rattle.grid_cells.specs.Cell.{Point}
use Rattle.plan_table.specs.Path.{last_index}
use Rattle.plan_table.specs.Route.{Route, Fleet, position, position_of, last_of, leaves_of}
use Rattle.mapf_rules.specs.Entries.{IsFollowing}
use Rattle.mapf_rules.specs.Cycles.{MovesOut, IsRing}
use Rattle.mapf_rules.specs.ConflictList.{Stands}
use Rattle.mapf_rules.specs.declared.entries.Conflict.{Conflict}
use Rattle.mapf_rules.specs.declared.entries.Conflict.TheVariants.{Vertex, Parked, Edge, Following, Swapping, Cycle}
use Rattle.mapf_rules.specs.Naming.{Names, IsPair, time_of}
use Rattle.conflict_ledger.specs.Gathering.{IsMet}
use Rattle.conflict_ledger.specs.declared.places.Place.TheVariants.{Beside, Ahead, Behind}
use Rattle.conflict_ledger.specs.Change.{SameBut, RingsAfterArrival}
use Rattle.mapf_rules.proofs.RingOrder.{after_within}

-- an agent is at the same places in both fleets in the step that begins at the time, and goes on after it in both, or ends alike
pub record IsAlike (old new : Fleet) (time a : ℕ) : Type 0 where
  pub now : position_of old a time ≡ position_of new a time
  pub later : position_of old a (time + 1) ≡ position_of new a (time + 1)
  pub ends : ((time < last_of old a) × (time < last_of new a)) ⊎ ((last_of old a ≡ last_of new a) × (leaves_of old a ≡ leaves_of new a))

module _ (old new : Fleet) where
  follows_alike : (time follower leader : ℕ) (cell : Point) → IsAlike old new time follower → IsAlike old new time leader
      → IsFollowing old time follower leader cell → IsFollowing new time follower leader cell
  follows_alike time follower leader cell f l h = grind arith

  out_alike : (time a : ℕ) (cell : Point) → IsAlike old new time a → MovesOut new time a cell → MovesOut old time a cell
  out_alike time a cell s h = grind arith

  pub ring_alike : (time : ℕ) (ring : List ℕ) → ((a : ℕ) → Contains ring a → IsAlike old new time a)
      → ((member other : ℕ) (cell : Point) → Contains ring member → position_of new member time ≡ Some cell → MovesOut new time other cell → IsAlike old new time other)
      → IsRing old time ring → IsRing new time ring
  ring_alike time ring members others is = record {
    three = is.three;
    distinct = is.distinct;
    least_first = is.least_first;
    round = λ k within.
        let step = is.round k within in
        let next = Contains-get_or ring ((k + 1) % length ring) 0 (after_within k (length ring) within) in
        (step.0, follows_alike time _ _ step.0 (members _ (Contains-get_or ring k 0 within)) (members _ next) step.1);
    alone = λ member other cell in_ring at moves.
        is.alone member other cell in_ring ((members member in_ring).now ∙ at) (out_alike time other cell (others member other cell in_ring at moves) moves);
  }

  -- an entry of two such agents stands in both fleets
  pub stands_alike : (entry : Conflict) → IsPair entry → ((a : ℕ) → Names entry a → IsAlike old new (time_of entry) a) → Stands old entry → Stands new entry
  stands_alike (Cycle time ring) pair all h = absurd pair
  stands_alike entry pair all h = let a = all _ (inl refl) in let b = all _ (inr refl) in grind arith

module _ (old new : Fleet) (agent : ℕ) (same : SameBut old new agent) where
  pub there : (a time : ℕ) → a ≢ agent → position_of old a time ≡ position_of new a time
  there a time apart = ap (λ r. option_and_then (λ route. position route time) r) (same a apart)

  pub ends : (a : ℕ) → a ≢ agent → last_of old a ≡ last_of new a
  ends a apart = ap (λ r. unwrap_or (option_map (λ (route : Route). last_index route.path) r) 0) (same a apart)

  pub leaving : (a : ℕ) → a ≢ agent → leaves_of old a ≡ leaves_of new a
  leaving a apart = ap (λ r. unwrap_or (option_map (λ (route : Route). route.leaves) r) false) (same a apart)

  pub alike : (time a : ℕ) → a ≢ agent → IsAlike old new time a
  alike time a apart = record { now = there a time apart; later = there a (time + 1) apart; ends = inr (ends a apart, leaving a apart) }

  -- a ring without the agent stays, unless the agent moves out of a member's cell
  pub ring_stays : (time : ℕ) (ring : List ℕ) → (Contains ring agent → ⊥)
      → ((member : ℕ) (cell : Point) → Contains ring member → position_of new member time ≡ Some cell → MovesOut new time agent cell → ⊥)
      → IsRing old time ring → IsRing new time ring
  ring_stays time ring out free = ring_alike old new time ring (λ a has. alike time a (λ e. out (subst (Contains ring) e has)))
      (λ member other cell in_ring at moves. alike time other (λ e. free member cell in_ring at (subst (λ a. MovesOut new time a cell) e moves)))

-- ---- where the entries of an agent are looked for
-- the other agent is where the agent meets it: there at the start of the step, where the agent is then or goes, or coming to
-- where the agent starts
abbrev pub MetNear : Fleet → ℕ → Conflict → ℕ → Type 0
MetNear fleet agent entry other = (cell : Point) × (((position_of fleet agent (time_of entry) ≡ Some cell) × (position_of fleet other (time_of entry) ≡ Some cell) × IsMet Beside entry agent)
    ⊎ (((position_of fleet agent (time_of entry + 1) ≡ Some cell) × (position_of fleet other (time_of entry) ≡ Some cell) × IsMet Ahead entry agent)
    ⊎ ((position_of fleet agent (time_of entry) ≡ Some cell) × (position_of fleet other (time_of entry + 1) ≡ Some cell) × IsMet Behind entry agent)))

pub near_of : (fleet : Fleet) (agent : ℕ) (entry : Conflict) → IsPair entry → Names entry agent → Stands fleet entry → (other : ℕ) × Names entry other × (other ≢ agent) × MetNear fleet agent entry other
near_of fleet agent (Vertex time first second cell) pair names h = elim names [
  | inl e ↦ (second, inr refl, λ is. omega (arith, h.ordered, e, is), (cell, inl (subst (λ a. position_of fleet a time ≡ Some cell) e h.first_there, h.second_there, tt)))
  | inr e ↦ (first, inl refl, λ is. omega (arith, h.ordered, e, is), (cell, inl (subst (λ a. position_of fleet a time ≡ Some cell) e h.second_there, h.first_there, tt)))
]
near_of fleet agent (Parked time first second cell) pair names h = elim names [
  | inl e ↦ (second, inr refl, λ is. omega (arith, h.ordered, e, is), (cell, inl (subst (λ a. position_of fleet a time ≡ Some cell) e h.first_there, h.second_there, tt)))
  | inr e ↦ (first, inl refl, λ is. omega (arith, h.ordered, e, is), (cell, inl (subst (λ a. position_of fleet a time ≡ Some cell) e h.second_there, h.first_there, tt)))
]
near_of fleet agent (Edge time first second cell next) pair names h = elim names [
  | inl e ↦ (second, inr refl, λ is. omega (arith, h.ordered, e, is), (cell, inl (subst (λ a. position_of fleet a time ≡ Some cell) e h.first_from, h.second_from, tt)))
  | inr e ↦ (first, inl refl, λ is. omega (arith, h.ordered, e, is), (cell, inl (subst (λ a. position_of fleet a time ≡ Some cell) e h.second_from, h.first_from, tt)))
]
near_of fleet agent (Following time follower leader cell) pair names h = elim names [
  | inl e ↦ (leader, inr refl, λ is. h.two (e ∙ sym is), (cell, inr (inl (subst (λ a. position_of fleet a (time + 1) ≡ Some cell) e h.follower_to, h.leader_there, e))))
  | inr e ↦ (follower, inl refl, λ is. h.two (is ∙ sym e), (cell, inr (inr (subst (λ a. position_of fleet a time ≡ Some cell) e h.leader_there, h.follower_to, e))))
]
near_of fleet agent (Swapping time first second cell other) pair names h = elim names [
  | inl e ↦ (second, inr refl, λ is. omega (arith, h.ordered, e, is), (other, inr (inl (subst (λ a. position_of fleet a (time + 1) ≡ Some other) e h.first_to, h.second_from, tt))))
  | inr e ↦ (first, inl refl, λ is. omega (arith, h.ordered, e, is), (cell, inr (inl (subst (λ a. position_of fleet a (time + 1) ≡ Some cell) e h.second_to, h.first_from, tt))))
]
near_of fleet agent (Cycle time ring) pair names h = absurd pair

gone : (fleet : Fleet) (agent time : ℕ) (cell : Point) → fleet agent ≡ None → MovesOut fleet time agent cell → ⊥
gone fleet agent time cell is h =
    let nowhere : position_of fleet agent time ≡ None = ap (λ r. option_and_then (λ route. position route time) r) is in
    let wrong : None ≡ Some cell = sym nowhere ∙ h.from in
    cc

pub rings_after_arrival : RingsAfterArrival
rings_after_arrival old new agent time ring same absent there_or_not =
    let back : SameBut new old agent = λ a apart. sym (same a apart) in (
      (λ h. elim there_or_not [
        | inl in_ring ↦ inl (in_ring, h)
        | inr out ↦ inr (out, ring_stays new old agent back time ring out (λ member cell in_ring at moves. gone old agent time cell absent moves) h, λ member cell in_ring at moves. out (subst (Contains ring) (sym (h.alone member agent cell in_ring at moves)) in_ring))
      ]),
      (λ h. elim h [
        | inl with ↦ with.1
        | inr without ↦ ring_stays old new agent same time ring without.0 without.2 without.1
      ]),
    )

-- the entries of two agents, likewise
pub pairs_after_change : (old new : Fleet) (agent : ℕ) (entry : Conflict) → SameBut old new agent → IsPair entry → (Names entry agent → ⊥) → Stands old entry ↔ Stands new entry
pairs_after_change old new agent entry same pair out = (
  stands_alike old new entry pair (λ a named. alike old new agent same (time_of entry) a (λ e. out (subst (Names entry) e named))),
  stands_alike new old entry pair (λ a named. alike new old agent (λ b apart. sym (same b apart)) (time_of entry) a (λ e. out (subst (Names entry) e named))),
)
