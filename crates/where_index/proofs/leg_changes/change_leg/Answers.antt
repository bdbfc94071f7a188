use Rattle.std.proofs.Common.{◌≡◌, None, sym, ap, ◌∙◌, arith}
use Rattle.where_index.specs.Records.{stand_at, hop_at, leg_between, leg_at}
use Rattle.where_index.specs.Changes.{set_at}
use Rattle.where_index.proofs.Flowing.{HasTraffic-ext}
use Rattle.where_index.proofs.Changes.{set_same, set_twice, set_itself}
use Rattle.where_index.proofs.leg_changes.change_leg.Goals as goal

pub returns-in_ok-fill_leg-clause-set : goal.returns-in_ok-fill_leg-clause-set
returns-in_ok-fill_leg-clause-set c = λ f has is.
    let time = c.args.time in
    let next = leg_at c.args.new.now time in
    let mid = set_at f c.args.agent time None in
    let gone = rw c.leg.ensures at c.clear_leg.ensures.set in
    let come = rw c.leg-then-count-gt0.ensures at c.in_ok-fill_leg.ensures.set in
    HasTraffic-ext c.fill_leg.new.traffic (set_at mid c.args.agent time next) (set_at f c.args.agent time next) (set_twice f c.args.agent time None next)
    (come mid (gone f has is) (set_itself f c.args.agent time None))

pub returns-else-count-gt0-clause-set : goal.returns-else-count-gt0-clause-set
returns-else-count-gt0-clause-set c = λ f has is.
    let time = c.args.time in
    let stands : stand_at c.args.old.now time ≡ stand_at c.args.new.now time = sym c.stand.ensures ∙ (c.count_of.ensures.none (omega (arith, c.if-count-gt0.false)) ∙ c.stand-2.ensures) in
    let hops : hop_at c.args.old.now.path time ≡ hop_at c.args.new.now.path time = sym c.hop.ensures ∙ (c.count_of_hops.ensures.none (omega (arith, c.if-count-gt0.false)) ∙ c.hop-2.ensures) in
    let same : leg_at c.args.old.now time ≡ leg_at c.args.new.now time = ap (λ o. leg_between o (hop_at c.args.old.now.path time)) stands ∙ ap (λ h. leg_between (stand_at c.args.new.now time) h) hops in
    HasTraffic-ext c.args.traffic.now f (set_at f c.args.agent time (leg_at c.args.new.now time)) (set_same f c.args.agent time (leg_at c.args.new.now time) (is ∙ same)) has
