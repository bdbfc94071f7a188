use Rattle.std.proofs.Common.{arith, refl, ◌∙◌, subst, sym, ◌*◌, ◌≤◌, length}
use Rattle.goal_fields.specs.Lifelong.{count_over, IsInRepair}
use Rattle.goal_fields.specs.declared.lifelong.Lifelong.{Lifelong}
use Rattle.goal_fields.proofs.TakeLemmas.{count_over-le, count_over-same}
use Rattle.goal_fields.proofs.LastLemmas.{IsSettled-ended}
use Rattle.goal_fields.proofs.lifelong.Lifelong.settle.Goals as goal

pub loop-init : goal.loop-init
loop-init c = record {
  repairing = (0, c.requires.begun);
  kept = record { grid = refl; goal = refl };
  all_told = omega (arith, c.requires.bound, c.requires.begun.counted, count_over-same c.args.self.now.g.items);
}

pub loop-preserved : goal.loop-preserved
loop-preserved c =
    let (floor, inv) = c.loop.invariant.repairing in
    let (next, later, more) = c.loop-test.ensures.goes_on c.args.self.now.g.items floor inv in
    record {
      repairing = (next, later);
      kept = record { grid = c.loop-test.ensures.kept.grid ∙ c.loop.invariant.kept.grid; goal = c.loop-test.ensures.kept.goal ∙ c.loop.invariant.kept.goal };
      all_told = omega (arith, more, c.loop-test.ensures.all_told, c.loop.invariant.all_told);
    }

pub loop-smaller : goal.loop-smaller
loop-smaller c =
    let (floor, inv) = c.loop.invariant.repairing in
    let (next, later, more) = c.loop-test.ensures.goes_on c.args.self.now.g.items floor inv in
    let few : count_over c.args.self.now.g.items c.step.new.self.g.items ≤ 2 * length c.args.self.now.g.items = count_over-le c.args.self.now.g.items c.step.new.self.g.items in
    omega (arith, more, few, later.counted, c.requires.begun.one_each)

pub returns-clause-settled : goal.returns-clause-settled
returns-clause-settled c =
    let (floor, inv) = c.loop.invariant.repairing in
    IsSettled-ended c.args.self.now.g.items c.step.new.self floor (subst (λ (s : Lifelong). IsInRepair c.args.self.now.g.items s floor) (sym c.loop-test.ensures.ended.1) inv) c.loop-test.ensures.ended.0
