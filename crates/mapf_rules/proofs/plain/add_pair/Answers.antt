use Rattle.mapf_rules.specs.Finding.{fleet_of}
use Rattle.mapf_rules.proofs.Adds.{adds_as, adds_both, one_of_three, pair_found}
use Rattle.mapf_rules.proofs.plain.add_pair.Goals as goal

pub returns : goal.returns
returns c =
    let fleet = fleet_of c.args.table.now in
    adds_as (adds_both (adds_both c.in_ok-offer.ensures c.in_ok-offer-2.ensures) c.in_ok-offer-3.ensures) (λ e. (
      one_of_three fleet c.args.time c.args.first c.args.second _ _ _ c.meeting.ensures.only c.moving.ensures.only c.following.ensures.only e,
      pair_found fleet c.args.time c.args.first c.args.second _ _ _ c.meeting.ensures.vertex c.meeting.ensures.parked c.moving.ensures.edge c.moving.ensures.swapping c.following.ensures.found e,
    ))
