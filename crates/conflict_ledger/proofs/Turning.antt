-- The rings of the others that the moves of one agent break, and those that it joins.
use Rattle.std.proofs.lemmas.Bool.Decides.{nat_tests}
use Rattle.std.proofs.Common.{◌≡◌, ◌≢◌, ◌⊎◌, inl, inr, ℕ, ◌+◌, ◌≤◌, List, [], ◌∷◌, Contains, Option, Some, None, refl, sym, ap, subst, ◌∙◌, arith}
use mathlib.Core.Bool.{false≢true}
use mathlib.Core.Logic.{◌↔◌}
use Rattle.std.specs.Prelude.{IsSome}
use Rattle.std.specs.Option.{option_and_then}
use Rattle.std.proofs.lemmas.Option.{same_Some}
use Rattle.grid_cells.specs.Cell.{Point}
use Rattle.plan_table.specs.Route.{Route, Fleet, position, position_of, last_of}
use Rattle.plan_table.proofs.Order.{Contains-cons_cases, Contains-cons_head, Contains-cons_tail}
use Rattle.std.proofs.lemmas.Bool.{cases_lt}
use Rattle.where_index.specs.Index.{Contents}
use Rattle.mapf_rules.specs.ConflictList.{Stands}
use Rattle.mapf_rules.specs.Cycles.{MovesOut, IsRing}
use Rattle.mapf_rules.specs.Naming.{IsPair, Names, time_of}
use Rattle.conflict_ledger.specs.Change.{SameBut, IsFree}
use Rattle.conflict_ledger.specs.Sight.{Shows, own_place}
use Rattle.conflict_ledger.specs.Gathering.{IsAgents}
use Rattle.conflict_ledger.specs.Turns.{IsLeftAt, MayTurn}
use Rattle.conflict_ledger.specs.declared.turns.Turn.TheVariants.{Broken, Joined}
use Rattle.mapf_rules.specs.declared.entries.Conflict.{Conflict}
use Rattle.mapf_rules.specs.declared.entries.Conflict.TheVariants.{Vertex, Following, Cycle}
use Rattle.conflict_ledger.proofs.Change.{there, ends, rings_after_arrival}
use Rattle.mapf_rules.proofs.RingOrder.{ring_next, one_to}
use Rattle.conflict_ledger.proofs.MoverIn.{early_mover}
use Rattle.mapf_rules.proofs.Walks.{same_or_not}
use Rattle.std.proofs.lemmas.List.{get_or_default}

in_or_not : (xs : List ℕ) (a : ℕ) → Contains xs a ⊎ (Contains xs a → ⊥)
in_or_not [] a = inr (λ h. omega (arith, h.1))
in_or_not (x ∷ xs) a = grind (arith, in_or_not xs a, Contains-cons_head x xs, Contains-cons_tail x xs a, Contains-cons_cases x xs a, same_or_not x a)

pub names_or_not : (entry : Conflict) (a : ℕ) → Names entry a ⊎ (Names entry a → ⊥)
names_or_not (Cycle x r) a = in_or_not r a
names_or_not entry a = grind arith

given : (o : Option Point) → IsSome o → (to : Point) × (o ≡ Some to)
given None h = absurd (false≢true h)
given (Some to) h = (to, refl)

same_point : (a b : Point) → (a ≡ b) ⊎ (a ≢ b)
same_point a b = grind (arith, nat_tests)

pub place_or_not : (a b : Option Point) → (a ≡ b) ⊎ (a ≢ b)
place_or_not None None = inl refl
place_or_not None (Some b) = inr (λ e. cc)
place_or_not (Some a) None = inr (λ e. cc)
place_or_not (Some a) (Some b) = grind (arith, same_point a b)

-- one of the agents is in the cell, or none is
found : (fleet : Fleet) (time : ℕ) (cell : Point) (xs : List ℕ) → ((m : ℕ) × Contains xs m × (position_of fleet m time ≡ Some cell)) ⊎ ((m : ℕ) → Contains xs m → position_of fleet m time ≡ Some cell → ⊥)
found fleet time cell [] = inr (λ m h at. omega (arith, h.1))
found fleet time cell (x ∷ xs) = elim (place_or_not (position_of fleet x time) (Some cell)) [
  | inl here ↦ inl (x, Contains-cons_head x xs, here)
  | inr apart ↦ elim (found fleet time cell xs) [
    | inl w ↦ inl (w.0, Contains-cons_tail x xs w.0 w.1, w.2)
    | inr none ↦ inr (λ m h at. elim (Contains-cons_cases x xs m h) [ inl e ↦ apart (subst (λ (q : ℕ). position_of fleet q time ≡ Some cell) (sym e) at) | inr later ↦ none m later at ])
  ]
]

-- a member of a ring moves out of its cell
moves_from : (fleet : Fleet) (time a : ℕ) (ring : List ℕ) → IsRing fleet time ring → Contains ring a → (cell : Point) × MovesOut fleet time a cell
moves_from fleet time a ring is has =
    let before = one_to fleet time ring is a has in
    (before.1.cell, before.1.sole.moves)

module _ (index : Contents) (agent : ℕ) (route : Option Route) (out into : Fleet) (hides : Shows index agent None out) (shows : Shows index agent route into) (same : SameBut out into agent) where
  nowhere : (time : ℕ) → position_of out agent time ≡ None
  nowhere time = ap (λ (o : Option Route). option_and_then (λ r. position r time) o) hides.own

  not_there : (time : ℕ) (cell : Point) → position_of out agent time ≡ Some cell → ⊥
  not_there time cell at = let wrong : None ≡ Some cell = sym (nowhere time) ∙ at in cc

  -- no entry of two agents names one that is nowhere
  pub unnamed : (entry : Conflict) → IsPair entry → Stands out entry → Names entry agent → ⊥
  unnamed entry pair stands names = grind (arith, nat_tests)

  place : (time : ℕ) → position_of into agent time ≡ own_place route time
  place time = ap (λ (o : Option Route). option_and_then (λ r. position r time) o) shows.own

  -- the agent of a ring is somewhere
  pub no_member : (time : ℕ) (ring : List ℕ) → IsRing out time ring → Contains ring agent → ⊥
  no_member time ring is (k, within, at) =
      let here = get_or_default ring k 0 agent within ∙ at in
      let next = ring_next out time ring is k within in
      not_there (time + 1) next.cell (subst (λ a. position_of out a (time + 1) ≡ Some next.cell) here next.to)

  -- the rings that the agent is in are those at the cells that it moves out of
  pub joined_has : (time : ℕ) (ring : List ℕ) → IsRing into time ring → Contains ring agent → IsLeftAt into route time ring
  joined_has time ring is (k, within, at) =
      let here = get_or_default ring k 0 agent within ∙ at in
      let next = ring_next into time ring is k within in
      let goal : position_of into agent (time + 1) ≡ Some next.cell = subst (λ a. position_of into a (time + 1) ≡ Some next.cell) here next.to in
      let start = leaves_from time agent ring is (k, within, at) in
      record {
        cell = start.0;
        to = next.cell;
        from = sym (place time) ∙ start.1.from;
        arrives = sym (place (time + 1)) ∙ goal;
        moves = λ e. start.1.moves (goal ∙ ap Some e);
        round = record { round = is; member = agent; of = (k, within, at); out = start.1 };
      }
    where
      leaves_from : (t a : ℕ) (r : List ℕ) → IsRing into t r → Contains r a → (cell : Point) × MovesOut into t a cell
      leaves_from t a r is has = moves_from into t a r is has

  agent_out : (fleet : Fleet) (time : ℕ) (ring : List ℕ) (left : IsLeftAt fleet route time ring) → MovesOut into time agent left.cell
  agent_out fleet time ring left = grind (arith, nat_tests)

  pub joined_in : (time : ℕ) (ring : List ℕ) → IsLeftAt into route time ring → Contains ring agent
  joined_in time ring left = subst (Contains ring) (sym (left.round.round.alone left.round.member agent left.cell left.round.of left.round.out.from (agent_out into time ring left))) left.round.of

  pub arrival : (time : ℕ) (ring : List ℕ) → IsRing into time ring ↔ ((Contains ring agent × IsRing into time ring) ⊎ ((Contains ring agent → ⊥) × IsRing out time ring × IsFree into time ring agent))
  arrival time ring = rings_after_arrival out into agent time ring same hides.own (in_or_not ring agent)

  apart_of : (ring : List ℕ) (member : ℕ) → (Contains ring agent → ⊥) → Contains ring member → member ≢ agent
  apart_of ring member none has e = none (subst (Contains ring) e has)

  -- a ring at whose cells the agent moves out is none that it leaves alone
  pub not_free : (time : ℕ) (ring : List ℕ) → (Contains ring agent → ⊥) → IsLeftAt out route time ring → IsFree into time ring agent → ⊥
  not_free time ring none left free = free left.round.member left.cell left.round.of (sym (there out into agent same left.round.member time (apart_of ring left.round.member none left.round.of)) ∙ left.round.out.from) (agent_out out time ring left)

  -- and each other one is
  free_of : (time : ℕ) (ring : List ℕ) → IsRing out time ring → (IsLeftAt out route time ring → ⊥) → IsFree into time ring agent
  free_of time ring is left member cell has at outs =
      let its = moves_from out time member ring is has in
      let apart : member ≢ agent = apart_of ring member (no_member time ring is) has in
      let cells : its.0 ≡ cell = same_Some its.0 cell (sym its.1.from ∙ there out into agent same member time apart ∙ at) in
      let to = given (position_of into agent (time + 1)) outs.goes_on in
      left (record {
        cell = cell;
        to = to.0;
        from = sym (place time) ∙ outs.from;
        arrives = sym (place (time + 1)) ∙ to.1;
        moves = λ e. outs.moves (to.1 ∙ ap Some e);
        round = record { round = is; member = member; of = has; out = subst (MovesOut out time member) cells its.1 };
      })

  pub stays_ring : (time : ℕ) (ring : List ℕ) → IsRing out time ring → (IsLeftAt out route time ring → ⊥) → IsRing into time ring
  stays_ring time ring is left = (arrival time ring).1 (inr (no_member time ring is, is, free_of time ring is left))

  pub goes_ring : (time : ℕ) (ring : List ℕ) → IsRing into time ring → (Contains ring agent → ⊥) → IsRing out time ring
  goes_ring time ring is none = elim ((arrival time ring).0 is) [ inl w ↦ absurd (none w.0) | inr w ↦ w.1 ]

  pub left_or_not : (time : ℕ) (ring : List ℕ) → IsRing out time ring → IsLeftAt out route time ring ⊎ (IsLeftAt out route time ring → ⊥)
  left_or_not time ring is = by_place (own_place route time) refl (own_place route (time + 1)) refl
    where
      by_place : (a : Option Point) → own_place route time ≡ a → (b : Option Point) → own_place route (time + 1) ≡ b → IsLeftAt out route time ring ⊎ (IsLeftAt out route time ring → ⊥)
      by_place None a b eb = inr (λ left. let wrong : None ≡ Some left.cell = sym a ∙ left.from in cc)
      by_place (Some cell) a None eb = inr (λ left. let wrong : None ≡ Some left.to = sym eb ∙ left.arrives in cc)
      by_place (Some cell) a (Some to) eb = elim (same_point to cell) [
        | inl stays ↦ inr (λ left. left.moves (same_Some left.to to (sym left.arrives ∙ eb) ∙ stays ∙ same_Some cell left.cell (sym a ∙ left.from)))
        | inr moves ↦ elim (found out time cell ring) [
          | inl w ↦
              let its = moves_from out time w.0 ring is w.1 in
              let cells : its.0 ≡ cell = same_Some its.0 cell (sym its.1.from ∙ w.2) in
              inl (record { cell = cell; to = to; from = a; arrives = eb; moves = moves; round = record { round = is; member = w.0; of = w.1; out = subst (MovesOut out time w.0) cells its.1 } })
          | inr none ↦ inr (λ left. none left.round.member left.round.of (left.round.out.from ∙ ap Some (same_Some left.cell cell (sym left.from ∙ a))))
        ]
      ]

  -- the agent has an entry where a ring is at the cell that it moves out of
  pub told_broken : (time : ℕ) (ring : List ℕ) → IsLeftAt out route time ring → (e : Conflict) × IsAgents into agent e × (time_of e ≡ time) × MayTurn Broken e agent
  told_broken time ring left =
      let member : ℕ = left.round.member in
      let apart : member ≢ agent = λ is. not_there time left.cell (subst (λ (q : ℕ). position_of out q time ≡ Some left.cell) is left.round.out.from) in
      let its : position_of into member time ≡ Some left.cell = sym (there out into agent same member time apart) ∙ left.round.out.from in
      let own : position_of into agent time ≡ Some left.cell = place time ∙ left.from in
      let early : time + 1 ≤ last_of into member = subst (λ (q : ℕ). time + 1 ≤ q) (ends out into agent same member apart) (early_mover out time member left.cell left.round.out) in
      elim (cases_lt member agent) [
        | inl lower ↦ (Vertex time member agent left.cell, record { stands = record { ordered = lower; first_there = its; second_there = own; passes = inl (omega arith) }; pair = tt; names = inr refl }, refl, tt)
        | inr above ↦ (Vertex time agent member left.cell, record { stands = record { ordered = omega (arith, apart); first_there = own; second_there = its; passes = inl (omega arith) }; pair = tt; names = inl refl }, refl, tt)
      ]

  pub told_joined : (time : ℕ) (ring : List ℕ) → IsLeftAt into route time ring → (e : Conflict) × IsAgents into agent e × (time_of e ≡ time) × MayTurn Joined e agent
  told_joined time ring left =
      let before = one_to into time ring left.round.round agent (joined_in time ring left) in
      let out_of = before.1.sole.moves in (
        Following time before.0 agent before.1.cell,
        record {
          stands = record {
            two = λ is. before.1.moves (subst (λ (q : ℕ). position_of into q time ≡ Some before.1.cell) (sym is) out_of.from);
            leader_there = out_of.from;
            leader_goes_on = out_of.goes_on;
            follower_to = before.1.to;
            moves = before.1.moves;
          };
          pair = tt;
          names = inr refl;
        },
        refl,
        refl,
      )
