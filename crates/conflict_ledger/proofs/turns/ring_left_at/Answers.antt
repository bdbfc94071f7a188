use Rattle.std.proofs.Common.{◌≡◌, refl, sym, subst, ◌∙◌, arith, rules}
use mathlib.Core.Bool.{false≢true}
use Rattle.std.proofs.lemmas.Option.{same_Some, none-some, MatchOption-at_some}
use Rattle.grid_cells.specs.Cell.{Point}
use Rattle.mapf_rules.specs.Cycles.{IsRingAt}
use Rattle.conflict_ledger.proofs.turns.ring_left_at.Goals as goal
use Rattle.conflict_ledger.proofs.turns.ring_left_at.Goals.{then-eq-via-then-eq, then-eq-via-else-eq+then-not-may_have_ring}

pub returns-then-eq-clause-has : goal.returns-then-eq-clause-has
returns-then-eq-clause-has c fleet shows ring left =
    let same : left.cell ≡ c.in-Some.cell = same_Some _ _ (sym left.from ∙ sym c.own.ensures ∙ c.in-Some.is) in
    elim c.then-eq.branch [
      | then-eq-via-then-eq w ↦
          let stays : c.in-Some-own.to ≡ c.in-Some.cell = grind (arith, sym c.eq.ensures ∙ w.if-eq.true) in
          absurd (left.moves (same_Some _ _ (sym left.arrives ∙ sym c.own-2.ensures ∙ c.in-Some-own.is) ∙ stays ∙ sym same))
      | then-eq-via-else-eq+then-not-may_have_ring w ↦ absurd (false≢true (sym w.if-not-may_have_ring.true ∙ w.may_have_ring.ensures fleet ring shows left.round.round))
    ]

pub returns-in-Some-2-clause-only : goal.returns-in-Some-2-clause-only
returns-in-Some-2-clause-only c fleet shows =
    let round = MatchOption-at_some _ (IsRingAt fleet c.args.time c.in-Some.cell) c.in-Some-2.ring c.in-Some-2.is (c.in_ok-ring.ensures.ring fleet shows) in
    rw c.new.ensures (record { cell = c.in-Some.cell; to = c.in-Some-own.to; from = sym c.own.ensures ∙ c.in-Some.is; arrives = sym c.own-2.ensures ∙ c.in-Some-own.is; moves = search rules; round = round }, refl)

pub returns-in-Some-2-clause-has : goal.returns-in-Some-2-clause-has
returns-in-Some-2-clause-has c fleet shows ring left =
    let same : left.cell ≡ c.in-Some.cell = same_Some _ _ (sym left.from ∙ sym c.own.ensures ∙ c.in-Some.is) in
    let found = c.in_ok-ring.ensures.only fleet ring shows (subst (λ (p : Point). IsRingAt fleet c.args.time p ring) same left.round) in
    let one : c.in-Some-2.ring ≡ ring = same_Some _ _ (sym c.in-Some-2.is ∙ found) in
    rw (c.new.ensures, one) refl

pub returns-in-None-clause-has : goal.returns-in-None-clause-has
returns-in-None-clause-has c fleet shows ring left =
    let same : left.cell ≡ c.in-Some.cell = same_Some _ _ (sym left.from ∙ sym c.own.ensures ∙ c.in-Some.is) in
    absurd (none-some ring (sym c.in-None.is ∙ c.in_ok-ring.ensures.only fleet ring shows (subst (λ (p : Point). IsRingAt fleet c.args.time p ring) same left.round)))
