use Rattle.std.proofs.Common.{◌≢◌, inl, inr, refl, sym, subst, ◌∙◌}
use mathlib.Core.Bool.{false≢true}
use Rattle.std.proofs.lemmas.Bool.{eq-eqb}
use Rattle.std.proofs.lemmas.Option.{same_Some}
use Rattle.conflict_ledger.specs.Gathering.{IsMet, IsNear}
use Rattle.conflict_ledger.specs.declared.places.Place.{Place}
use Rattle.conflict_ledger.proofs.Gathers.{gathers_on, gathers_offer}
use Rattle.conflict_ledger.proofs.Meetings.{goes_on, met_ahead}
use Rattle.conflict_ledger.proofs.offers.offer_met.Goals as goal

pub returns-in_ok-offer-in-Ahead-3-clause-gathers : goal.returns-in_ok-offer-in-Ahead-3-clause-gathers
returns-in_ok-offer-in-Ahead-3-clause-gathers c fleet shows place near =
    let apart : c.args.spot.now.step.agent ≢ c.args.sight.now.agent = λ same. false≢true (sym c.if-eq.false ∙ c.eq.ensures ∙ eq-eqb _ _ same) in
    let ahead = subst (λ (p : Place). IsNear p fleet c.args.lasting c.args.spot.now c.args.time c.args.here c.args.next) c.in-Ahead.is (near apart) in
    let goes = goes_on fleet c.args.sight.now.agent c.args.spot.now.step.agent c.args.time c.args.here c.args.next place ahead.0 in
    let tells = ahead.1 in
    let swaps = c.goes_to-swaps.ensures fleet shows tells in
    gathers_on fleet _ _ _ _ _ (gathers_on fleet _ _ _ _ _
    (gathers_offer fleet _ c.args.time _ _ _ _ _ (inl refl) (c.following_of.ensures.stands fleet shows (λ on. record { two = λ same. apart (sym same); leader_there = tells.there; leader_goes_on = c.goes_on-goes.ensures fleet c.args.time tells on; follower_to = goes; moves = λ still. ahead.0 (same_Some _ _ (sym place.now ∙ still)) }) (λ same. apart (sym same)) tells.there goes) c.following_of.ensures.pair c.in_ok-offer-in-Ahead.ensures)
    (gathers_offer fleet _ c.args.time _ _ _ _ _ (inl refl) (c.swapping_of.ensures.stands fleet (λ swap lt. record { ordered = lt; first_from = place.now; second_from = tells.there; first_to = goes; second_to = (swaps.0 swap).1; moves = ahead.0 })) c.swapping_of.ensures.pair c.in_ok-offer-in-Ahead-2.ensures))
    (gathers_offer fleet _ c.args.time _ _ _ _ _ (inr refl) (c.swapping_of-in-Ahead.ensures.stands fleet (λ swap lt. record { ordered = lt; first_from = tells.there; second_from = place.now; first_to = (swaps.0 swap).1; second_to = goes; moves = (swaps.0 swap).0 })) c.swapping_of-in-Ahead.ensures.pair c.in_ok-offer-in-Ahead-3.ensures)

pub returns-in_ok-offer-in-Ahead-3-clause-has : goal.returns-in_ok-offer-in-Ahead-3-clause-has
returns-in_ok-offer-in-Ahead-3-clause-has c fleet shows place near entry is at two apart met =
    let ahead = subst (λ (p : Place). IsNear p fleet c.args.lasting c.args.spot.now c.args.time c.args.here c.args.next) c.in-Ahead.is (near apart) in
    let swaps = c.goes_to-swaps.ensures fleet shows ahead.1 in
    elim (met_ahead fleet c.args.sight.now.agent c.args.spot.now.step.agent c.args.time c.args.here c.args.next place c.following_of.result c.swapping_of.result c.swapping_of-in-Ahead.result
    (c.following_of.ensures.found fleet shows) (λ h. c.swapping_of.ensures.found (swaps.1 (λ same. h.moves (sym same), h.second_to)) h.ordered) (λ h. c.swapping_of-in-Ahead.ensures.found (swaps.1 (h.moves, h.first_to)) h.ordered)
    entry is at two apart (subst (λ (p : Place). IsMet p entry c.args.sight.now.agent) c.in-Ahead.is met)) [
      | inl f ↦ c.in_ok-offer-in-Ahead-3.ensures.keeps entry (c.in_ok-offer-in-Ahead-2.ensures.keeps entry (c.in_ok-offer-in-Ahead.ensures.has entry f))
      | inr r ↦ elim r [
        | inl s ↦ c.in_ok-offer-in-Ahead-3.ensures.keeps entry (c.in_ok-offer-in-Ahead-2.ensures.has entry s)
        | inr t ↦ c.in_ok-offer-in-Ahead-3.ensures.has entry t
      ]
    ]

pub returns-in_ok-offer-in-Behind-clause-gathers : goal.returns-in_ok-offer-in-Behind-clause-gathers
returns-in_ok-offer-in-Behind-clause-gathers c fleet shows place near =
    let apart : c.args.spot.now.step.agent ≢ c.args.sight.now.agent = λ same. false≢true (sym c.if-eq.false ∙ c.eq.ensures ∙ eq-eqb _ _ same) in
    let behind = subst (λ (p : Place). IsNear p fleet c.args.lasting c.args.spot.now c.args.time c.args.here c.args.next) c.in-Behind.is (near apart) in
    gathers_offer fleet _ c.args.time _ _ _ _ _ (inr refl) (c.following_of-met.ensures.stands fleet shows (λ w. absurd (false≢true w)) apart place.now behind.there) c.following_of-met.ensures.pair c.in_ok-offer-in-Behind.ensures
