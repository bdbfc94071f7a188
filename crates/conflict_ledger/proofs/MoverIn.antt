-- Who moves out of a cell, by an index and beside one agent's track.
use Rattle.std.proofs.lemmas.Bool.Decides.{nat_tests}
use Rattle.std.proofs.Common.{◌≡◌, ◌≢◌, inl, inr, ℕ, zero, suc, Bool, true, false, ◌+◌, ◌<◌, ◌≤◌, List, length, Some, None, Option, Contains, refl, sym, ap, subst, ◌∙◌, arith}
use mathlib.Core.Logic.{◌↔◌}
use Rattle.std.specs.Prelude.{IsSome, IfSome, ◌==◌}
use Rattle.std.specs.Option.{option_and_then}
use Rattle.std.proofs.lemmas.Bool.{eqb-true}
use Rattle.std.proofs.lemmas.Option.{same_Some}
use Rattle.grid_cells.specs.Cell.{Point}
use Rattle.plan_table.specs.Route.{Route, Fleet, position, position_of, last_of}
use Rattle.where_index.specs.Index.{Contents}
use Rattle.where_index.specs.Asked.{AreMovers}
use Rattle.where_index.specs.declared.moves.Move.{Move}
use Rattle.mapf_rules.specs.Cycles.{MovesOut}
use Rattle.mapf_rules.specs.RingWalk.{IsSoleMover, MovesTo}
use Rattle.conflict_ledger.specs.Sight.{Shows, IsMoverIn, own_place}
use Rattle.conflict_ledger.proofs.Change.{there}
use Rattle.mapf_rules.proofs.Walks.{same_or_not}

-- the agent moves out of the cell, to that one
pub record MovesFromTo (fleet : Fleet) (time : ℕ) (cell : Point) (agent : ℕ) (to : Point) : Type 0 where
  pub from : position_of fleet agent time ≡ Some cell
  pub arrives : position_of fleet agent (time + 1) ≡ Some to
  pub moves : to ≢ cell

out_of : (fleet : Fleet) (time : ℕ) (cell : Point) (agent : ℕ) (to : Point) → MovesFromTo fleet time cell agent to → MovesOut fleet time agent cell
out_of fleet time cell agent to is = record { from = is.from; goes_on = rw is.arrives refl; moves = λ same. is.moves (same_Some to cell (sym is.arrives ∙ same)) }

into : (fleet : Fleet) (time : ℕ) (cell : Point) (agent : ℕ) (to : Point) → MovesFromTo fleet time cell agent to → MovesTo fleet time agent to
into fleet time cell agent to is = record { to = is.arrives; moves = λ same. is.moves (same_Some to cell (sym same ∙ is.from)) }

goal_of : (fleet : Fleet) (time : ℕ) (cell : Point) (agent : ℕ) → MovesOut fleet time agent cell → (to : Point) × MovesFromTo fleet time cell agent to
goal_of fleet time cell agent out = grind (arith, nat_tests)

module _ (I : ℕ → Point → Type 0) (fleet : Fleet) (time : ℕ) (cell : Point) (same : (a : ℕ) (to : Point) → I a to ↔ MovesFromTo fleet time cell a to) where
  pub tells_sole : (r : Option (ℕ × Point)) → IfSome r (λ m. I m.0 m.1) → IfSome r (λ m. (a : ℕ) (to : Point) → I a to → a ≡ m.0) → IfSome r (λ m. IsSoleMover fleet time cell m.0)
  tells_sole None one only = tt
  tells_sole (Some m) one only = record {
    moves = out_of fleet time cell m.0 m.1 ((same m.0 m.1).0 one);
    only = λ a out. let end = goal_of fleet time cell a out in only a end.0 ((same a end.0).1 end.1);
  }

  pub tells_to : (r : Option (ℕ × Point)) → IfSome r (λ m. I m.0 m.1) → IfSome r (λ m. MovesTo fleet time m.0 m.1)
  tells_to None one = tt
  tells_to (Some m) one = into fleet time cell m.0 m.1 ((same m.0 m.1).0 one)

  pub tells_found : (r : Option (ℕ × Point)) → ((a : ℕ) (to : Point) → I a to → ((b : ℕ) (goal : Point) → I b goal → b ≡ a) → IsSome r) → (a : ℕ) → IsSoleMover fleet time cell a → IsSome r
  tells_found r found a sole =
      let end = goal_of fleet time cell a sole.moves in
      found a end.0 ((same a end.0).1 end.1) (λ b goal is. sole.only b (out_of fleet time cell b goal ((same b goal).0 is)))

-- the moves that an index has are those of its fleet
moves_in : (fleet : Fleet) (time : ℕ) (cell : Point) (moves : List Move) → AreMovers fleet time cell moves → (a : ℕ) (to : Point) → Contains moves (record { agent = a; to = to }) ↔ MovesFromTo fleet time cell a to
moves_in fleet time cell moves are a to = grind (arith, are.exact (record { agent = a; to = to }))

pub in_sight : (index : Contents) (agent : ℕ) (route : Option Route) (fleet : Fleet) (time : ℕ) (cell : Point) (moves : List Move) (own : Option Point) (shows : Shows index agent route fleet) → AreMovers shows.base time cell moves
    → ((to : Point) → (own ≡ Some to) ↔ ((own_place route time ≡ Some cell) × (own_place route (time + 1) ≡ Some to) × (to ≢ cell)))
    → (a : ℕ) (to : Point) → IsMoverIn moves agent own a to ↔ MovesFromTo fleet time cell a to
in_sight index agent route fleet time cell moves own shows are its a to = (
  λ h. elim h [
    | inl (is, goes) ↦
        let parts = (its to).0 goes in
        subst (λ (b : ℕ). MovesFromTo fleet time cell b to) (sym is) (record { from = place time ∙ parts.0; arrives = place (time + 1) ∙ parts.1; moves = parts.2 })
    | inr (apart, has) ↦
        let is = (moves_in shows.base time cell moves are a to).0 has in
        record { from = sym (there shows.base fleet agent shows.others a time apart) ∙ is.from; arrives = sym (there shows.base fleet agent shows.others a (time + 1) apart) ∙ is.arrives; moves = is.moves }
  ],
  λ is. elim (same_or_not a agent) [
    | inl at ↦ inl (at, (its to).1 (sym (place time) ∙ subst (λ (b : ℕ). position_of fleet b time ≡ Some cell) at is.from, sym (place (time + 1)) ∙ subst (λ (b : ℕ). position_of fleet b (time + 1) ≡ Some to) at is.arrives, is.moves))
    | inr apart ↦ inr (apart, (moves_in shows.base time cell moves are a to).1 (record { from = there shows.base fleet agent shows.others a time apart ∙ is.from; arrives = there shows.base fleet agent shows.others a (time + 1) apart ∙ is.arrives; moves = is.moves }))
  ],
) where
  place : (t : ℕ) → position_of fleet agent t ≡ own_place route t
  place t = ap (λ (o : Option Route). option_and_then (λ r. position r t) o) shows.own

-- with the first move told apart
pub in_whole : (fleet : Fleet) (time : ℕ) (cell : Point) (moves : List Move) (first : Move) → Contains moves first → AreMovers fleet time cell moves → (a : ℕ) (to : Point) → IsMoverIn moves first.agent (Some first.to) a to ↔ MovesFromTo fleet time cell a to
in_whole fleet time cell moves first has are a to =
    let its : MovesFromTo fleet time cell first.agent first.to = (moves_in fleet time cell moves are first.agent first.to).0 has in (
      λ h. elim h [
        | inl (is, goes) ↦ let same : first.to ≡ to = same_Some first.to to goes in subst (λ (p : Point). MovesFromTo fleet time cell a p) same (subst (λ (b : ℕ). MovesFromTo fleet time cell b first.to) (sym is) its)
        | inr (apart, is_in) ↦ (moves_in fleet time cell moves are a to).0 is_in
      ],
      λ is. elim (same_or_not a first.agent) [
        | inl at ↦ inl (at, sym its.arrives ∙ subst (λ (b : ℕ). position_of fleet b (time + 1) ≡ Some to) at is.arrives)
        | inr apart ↦ inr (apart, (moves_in fleet time cell moves are a to).1 is)
      ],
    )

-- a cell that nobody moves out of has no sole mover
pub none_whole : (fleet : Fleet) (time : ℕ) (cell : Point) (agent : ℕ) (moves : List Move) → length moves ≡ 0 → AreMovers fleet time cell moves → IsSoleMover fleet time cell agent → ⊥
none_whole fleet time cell agent moves none are sole =
    let end = goal_of fleet time cell agent sole.moves in
    let has = (moves_in fleet time cell moves are agent end.0).1 end.1 in
    let within : has.0 < length moves = has.1 in
    omega arith

pub none_if : (n : ℕ) (b : Bool) → b ≡ (n == 0) → b ≡ true → n ≡ 0
none_if n b e t = eqb-true n 0 (sym e ∙ t)

pub some_if : (n : ℕ) (b : Bool) → b ≡ (n == 0) → b ≡ false → 0 < n
some_if zero b e f = let wrong : true ≡ false = sym e ∙ f in absurd (cc)
some_if (suc n) b e f = omega arith

-- an agent that moves in a step does so before its last index
pub early_mover : (fleet : Fleet) (time m : ℕ) (cell : Point) → MovesOut fleet time m cell → time + 1 ≤ last_of fleet m
early_mover fleet time m cell out = grind (arith, nat_tests)
