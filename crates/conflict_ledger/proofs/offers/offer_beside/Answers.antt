use Rattle.std.proofs.Common.{inl, inr}
use Rattle.std.proofs.lemmas.Bool.{not-true}
use Rattle.conflict_ledger.proofs.Gathers.{gathers_on, gathers_offer}
use Rattle.conflict_ledger.proofs.Meetings.{one_of, other_passes, together, edge_beside, edge_goes, met_beside}
use Rattle.conflict_ledger.proofs.offers.offer_beside.Goals as goal

pub returns-clause-gathers : goal.returns-clause-gathers
returns-clause-gathers c fleet shows place near =
    let tells = near c.requires.1 in
    let order = c.in_order-first.ensures in
    let who = one_of c.args.sight.now.agent c.args.spot.now.step.agent _ _ order.0 order.1 in
    let both = together c.args.sight.now.agent c.args.spot.now.step.agent fleet c.args.time c.args.here _ _ order.0 order.1 c.requires.1 place.now tells.there in
    gathers_on fleet _ _ _ _ _
    (gathers_offer fleet _ c.args.time _ _ _ _ _ who (c.meeting_of-met.ensures.stands fleet shows (λ passing. other_passes c.args.sight.now.agent c.args.spot.now.step.agent fleet c.args.time _ _ order.0 order.1 (tells.passes (not-true _ passing))) both) c.meeting_of-met.ensures.pair c.in_ok-offer.ensures)
    (gathers_offer fleet _ c.args.time _ _ _ _ _ who (c.edge_of.ensures.stands fleet (λ shares. edge_beside fleet c.args.sight.now.agent c.args.spot.now.step.agent c.args.time c.args.here c.args.next place _ _ order.0 order.1 c.requires.1 tells.there ((c.goes_to-shares.ensures fleet shows tells).0 shares))) c.edge_of.ensures.pair c.in_ok-offer-2.ensures)

pub returns-clause-has : goal.returns-clause-has
returns-clause-has c fleet shows place near entry is at two apart met =
    let tells = near apart in
    let order = c.in_order-first.ensures in
    elim (met_beside fleet c.args.sight.now.agent c.args.spot.now.step.agent c.args.time c.args.here c.args.next place _ _ order.0 order.1 c.meeting_of-met.result c.edge_of.result
    (c.meeting_of-met.ensures.vertex fleet shows) (c.meeting_of-met.ensures.parked fleet shows (λ passing. other_passes c.args.sight.now.agent c.args.spot.now.step.agent fleet c.args.time _ _ order.0 order.1 (tells.passes (not-true _ passing))))
    (λ edge. c.edge_of.ensures.found ((c.goes_to-shares.ensures fleet shows tells).1 (edge_goes fleet c.args.sight.now.agent c.args.spot.now.step.agent c.args.time c.args.here c.args.next place _ _ order.0 order.1 edge)))
    entry is at two apart met) [
      | inl m ↦ c.in_ok-offer-2.ensures.keeps entry (c.in_ok-offer.ensures.has entry m)
      | inr e ↦ c.in_ok-offer-2.ensures.has entry e
    ]
