use Rattle.std.proofs.lemmas.Option.{gets}
use Rattle.std.proofs.lemmas.Grind.{common_steps}
use Rattle.std.proofs.Common.{◌≡◌, ◌+◌, ◌-◌, refl, arith}
use Rattle.std.proofs.Math.Seq.{take-add}
use Rattle.std.proofs.lemmas.Bool.Decides.{nat_tests}
use Rattle.std.specs.List.{slice_range}
use Rattle.plan_table.proofs.Fronts.{alike_front}
use Rattle.plan_table.proofs.paths.same_front.Goals as goal

pub loop-front-init : goal.loop-front-init
loop-front-init c = record {
  within = omega arith;
  same = alike_front c.args.one.now c.args.other.now _ (omega arith) (omega arith) (λ time early. c.requires time (omega (arith, early)));
}

pub loop-front-preserved : goal.loop-front-preserved
loop-front-preserved c =
    let front = c.loop-front.front in
    let block : front + 32 - front ≡ 32 = omega arith in
    let alike : slice_range c.args.one.now front (front + 32) ≡ slice_range c.args.other.now front (front + 32) = c.if-are_same.ensures.0 refl in
    record {
      within = omega arith;
      same = rw (take-add front 32 c.args.one.now, take-add front 32 c.args.other.now, c.loop-front.invariant.same, rw block at alike);
    }

pub returns-else-eq : goal.returns-else-eq
returns-else-eq c = grind (arith, nat_tests, common_steps, gets)
