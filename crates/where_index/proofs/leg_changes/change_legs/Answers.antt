use Rattle.std.proofs.Common.{◌≡◌, ◌+◌, refl, ◌∙◌, arith}
use Rattle.where_index.specs.Records.{stand_at, hop_at, leg_at, changed, changed_hop}
use Rattle.where_index.specs.Changes.{set_at, set_row, mixed}
use Rattle.where_index.proofs.Flowing.{HasTraffic-ext}
use Rattle.where_index.proofs.Changes.{same_leg, mixed_start, mixed_here, mixed_more, mixed_end, none_below, one_more, changed_itself, changed_hop_itself}
use Rattle.where_index.proofs.leg_changes.change_legs.Goals as goal

pub loop-time-init : goal.loop-time-init
loop-time-init c =
    let o = leg_at c.args.old.now in
    let n = leg_at c.args.new.now in
    let stands = none_below changed (stand_at c.args.old.now) (stand_at c.args.new.now) changed_itself c.args.from (λ t h. (c.requires.same_before t h).stands) in
    let hops = none_below changed_hop (hop_at c.args.old.now.path) (hop_at c.args.new.now.path) changed_hop_itself c.args.from (λ t h. (c.requires.same_before t h).hops) in
    record {
      set = λ f has agree. HasTraffic-ext c.args.traffic.now f (set_row f c.args.agent (mixed o n c.args.from)) (mixed_start f c.args.agent o n c.args.from (λ t h. same_leg (c.requires.same_before t h)) agree) has;
      tails = refl;
      count = omega (arith, stands, hops);
      few = omega arith;
    }

pub loop-time-preserved : goal.loop-time-preserved
loop-time-preserved c =
    let o = leg_at c.args.old.now in
    let n = leg_at c.args.new.now in
    let x = c.loop-time.time in
    let g = c.in_ok-count.ensures in
    let stands = one_more changed (stand_at c.args.old.now) (stand_at c.args.new.now) x _ _ refl refl in
    let hops = one_more changed_hop (hop_at c.args.old.now.path) (hop_at c.args.new.now.path) x _ _ refl refl in
    record {
      set = λ f has agree.
          HasTraffic-ext c.change_leg.new.traffic (set_at (set_row f c.args.agent (mixed o n x)) c.args.agent x (n x)) (set_row f c.args.agent (mixed o n (x + 1))) (mixed_more f c.args.agent o n x)
          (g.set (set_row f c.args.agent (mixed o n x)) (c.loop-time.invariant.set f has agree) (mixed_here f c.args.agent o n x));
      tails = g.tails ∙ c.loop-time.invariant.tails;
      count = omega (arith, stands, hops, c.loop-time.invariant.count, g.count);
      few = omega (arith, g.few);
    }

pub returns-clause-set : goal.returns-clause-set
returns-clause-set c = λ f has agree.
    let o = leg_at c.args.old.now in
    let n = leg_at c.args.new.now in
    let x = c.loop-time.time in
    let at_end : x ≡ c.args.to = omega arith in
    HasTraffic-ext c.loop-time.traffic (set_row f c.args.agent (mixed o n x)) (set_row f c.args.agent n) (mixed_end f c.args.agent o n x (λ t h. same_leg (c.requires.same_after t (omega arith))))
    (c.loop-time.invariant.set f has agree)

pub returns-clause-tails : goal.returns-clause-tails
returns-clause-tails c = c.loop-time.invariant.tails

pub returns-in_err-count-clause-tails : goal.returns-in_err-count-clause-tails
returns-in_err-count-clause-tails c = c.in_err-count.ensures.tails ∙ c.loop-time.invariant.tails
