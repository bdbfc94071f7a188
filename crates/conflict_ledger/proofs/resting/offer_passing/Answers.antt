use Rattle.std.proofs.Common.{◌≡◌, ◌≢◌, ◌+◌, ◌-◌, ℕ, Some, None, inl, inr, refl, sym, subst, ◌∙◌, arith}
use mathlib.Core.Bool.{false≢true}
use Rattle.std.proofs.lemmas.Bool.{eq-eqb}
use Rattle.plan_table.specs.Route.{position_of}
use Rattle.mapf_rules.specs.Entries.{IsFollowing}
use Rattle.conflict_ledger.proofs.Gathers.{gathers_on, gathers_offer, gathers_at}
use Rattle.conflict_ledger.proofs.Late.{one_of_late}
use Rattle.conflict_ledger.proofs.Meetings.{one_of, together}
use Rattle.conflict_ledger.proofs.resting.offer_passing.Goals as goal

pub returns-in_ok-offer-2-clause-gathers : goal.returns-in_ok-offer-2-clause-gathers
returns-in_ok-offer-2-clause-gathers c fleet shows passed =
    let apart : c.args.other ≢ c.args.sight.now.agent = λ same. false≢true (sym c.if-eq.false ∙ c.eq.ensures ∙ eq-eqb _ _ same) in
    let is = passed apart in
    let order = c.in_order-first.ensures in
    let who = one_of c.args.sight.now.agent c.args.other _ _ order.0 order.1 in
    let both = together c.args.sight.now.agent c.args.other fleet c.args.time c.args.rest _ _ order.0 order.1 apart (is.rests c.args.time (omega arith)) is.there in
    let comes : position_of fleet c.args.other (c.args.time - 1 + 1) ≡ Some c.args.rest = subst (λ (t : ℕ). position_of fleet c.args.other t ≡ Some c.args.rest) (omega arith) is.there in
    gathers_on fleet _ _ _ _ _
    (gathers_at fleet _ _ _ _ _ (λ t w. omega (arith, w)) (gathers_offer fleet _ c.args.time _ _ _ _ _ who (c.meeting_of.ensures.stands fleet shows (λ w. absurd (false≢true w)) both) c.meeting_of.ensures.pair c.in_ok-offer.ensures))
    (gathers_at fleet _ _ _ _ _ (λ t w. omega (arith, w)) (gathers_offer fleet _ _ c.args.other c.args.sight.now.agent _ _ _ (inr refl) (c.following_of.ensures.stands fleet shows (λ w. absurd (false≢true w)) apart (is.rests (c.args.time - 1) (omega arith)) comes) c.following_of.ensures.pair c.in_ok-offer-2.ensures))

pub returns-else-time-gt0-clause-gathers : goal.returns-else-time-gt0-clause-gathers
returns-else-time-gt0-clause-gathers c fleet shows passed =
    let apart : c.args.other ≢ c.args.sight.now.agent = λ same. false≢true (sym c.if-eq.false ∙ c.eq.ensures ∙ eq-eqb _ _ same) in
    let is = passed apart in
    let order = c.in_order-first.ensures in
    let who = one_of c.args.sight.now.agent c.args.other _ _ order.0 order.1 in
    let both = together c.args.sight.now.agent c.args.other fleet c.args.time c.args.rest _ _ order.0 order.1 apart (is.rests c.args.time (omega arith)) is.there in
    gathers_at fleet _ _ _ _ _ (λ t w. omega (arith, w)) (gathers_offer fleet _ c.args.time _ _ _ _ _ who (c.meeting_of.ensures.stands fleet shows (λ w. absurd (false≢true w)) both) c.meeting_of.ensures.pair c.in_ok-offer.ensures)

pub returns-in_ok-offer-2-clause-has : goal.returns-in_ok-offer-2-clause-has
returns-in_ok-offer-2-clause-has c fleet shows _ entry stands of =
    elim (one_of_late fleet c.args.time c.args.sight.now.agent c.args.other _ _ c.args.rest c.meeting_of.result c.following_of.result c.in_order-first.ensures.0 c.in_order-first.ensures.1
    (c.meeting_of.ensures.vertex fleet shows) (c.meeting_of.ensures.parked fleet shows (λ w. absurd (false≢true w)))
    (λ x next is.
    let same : x ≡ c.args.time - 1 = omega arith in
    rw same (c.following_of.ensures.found fleet shows (subst (λ (t : ℕ). IsFollowing fleet t c.args.other c.args.sight.now.agent c.args.rest) same is))) entry stands of) [
      | inl m ↦ c.in_ok-offer-2.ensures.keeps entry (c.in_ok-offer.ensures.has entry m)
      | inr f ↦ c.in_ok-offer-2.ensures.has entry f
    ]

pub returns-else-time-gt0-clause-has : goal.returns-else-time-gt0-clause-has
returns-else-time-gt0-clause-has c fleet shows _ entry stands of =
    elim (one_of_late fleet c.args.time c.args.sight.now.agent c.args.other _ _ c.args.rest c.meeting_of.result None c.in_order-first.ensures.0 c.in_order-first.ensures.1
    (c.meeting_of.ensures.vertex fleet shows) (c.meeting_of.ensures.parked fleet shows (λ w. absurd (false≢true w))) (λ x next is. absurd (omega arith)) entry stands of) [
      | inl m ↦ c.in_ok-offer.ensures.has entry m
      | inr f ↦ absurd (cc)
    ]
