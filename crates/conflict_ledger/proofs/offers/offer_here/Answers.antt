use Rattle.std.proofs.Common.{◌≢◌, sym, subst, ◌∙◌, inl, inr, rules}
use Rattle.std.proofs.lemmas.Option.{same_Some}
use Rattle.std.proofs.lemmas.Result.{on_ok_weaker}
use Rattle.plan_table.specs.Route.{Fleet}
use Rattle.conflict_ledger.specs.Gathering.{HasMet, IsNear, IsShowing}
use Rattle.conflict_ledger.specs.declared.places.Place.{Place}
use Rattle.conflict_ledger.proofs.Gathers.{gathers_at}
use Rattle.conflict_ledger.proofs.Meetings.{behind_moves}
use Rattle.conflict_ledger.proofs.Occupied.{near_here}
use Rattle.conflict_ledger.proofs.offers.offer_here.Goals as goal

module _ (c : goal.After-offer_met) (fleet : Fleet) (showing : IsShowing fleet c.args.sight.now.agent c.args.stop.now.here c.args.lasting c.args.spot.now) where
  near : c.args.spot.now.step.agent ≢ c.args.sight.now.agent → IsNear c.in-Some.place fleet c.args.lasting c.args.spot.now c.args.stop.now.time c.args.stop.now.here c.args.stop.now.next
  near apart = let shown = c.in-Some.ensures.shown in near_here _ fleet _ _ _ _ _ shown.0 (showing apart _ shown.1)

abbrev HasIn : goal.After-offer_met → Fleet → Place → Type 0
HasIn c fleet place = HasMet fleet c.args.sight.now.agent c.args.stop.now.time place c.args.spot.now.step.agent c.offer_met.new.entries.items

pub returns-clause-gathers : goal.returns-clause-gathers
returns-clause-gathers c =
    on_ok_weaker c.offer_met.result (λ gives fleet shows is showing. gathers_at fleet _ _ _ _ _ (λ t at. inr (at, search rules)) (gives fleet shows is.goes (near c fleet showing))) c.offer_met.ensures.gathers

pub returns-clause-behind : goal.returns-clause-behind
returns-clause-behind c =
    on_ok_weaker c.offer_met.result (λ gives fleet shows is showing _ later. elim (c.place_of.ensures.behind later) [
      | inl behind ↦ subst (HasIn c fleet) (same_Some _ _ (sym c.in-Some.is ∙ behind)) (gives fleet shows is.goes (near c fleet showing))
      | inr now ↦ λ entry own at two apart met. absurd (behind_moves fleet _ _ _ _ _ is.goes entry own at two apart met (showing apart _ now).there)
    ]) c.offer_met.ensures.has
