use Rattle.std.proofs.Common.{take, refl, arith, inr, ◌≡◌}
use Rattle.std.proofs.lemmas.List.{take_more, take_all}
use Rattle.goal_fields.proofs.LastLemmas.{IsInRepair-touched}
use Rattle.goal_fields.proofs.lifelong.Lifelong.mend.Goals as goal

pub loop-cell-init : goal.loop-cell-init
loop-cell-init c =
    let roomy = c.requires.roomy in
    record {
      roomy = record {
        sized = roomy.sized;
        goal_held = roomy.goal_held;
        whole = roomy.whole;
        one_g_each = roomy.one_g_each;
        queue = rw c.reset.ensures.is roomy.queue;
        one_key_each = rw c.reset.ensures.is roomy.one_key_each;
      };
      grid = refl;
      goal = refl;
      g = refl;
      taken = rw c.reset.ensures.is refl;
      total = rw c.reset.ensures.is refl;
      here = λ v con hv. absurd (omega (arith, con.1));
      each = λ w hw. inr (record { unqueued = rw c.reset.ensures.is (c.requires.empty w (rw roomy.queue hw)); on_way = λ v con hv adj lt e. absurd (omega (arith, con.1)) });
    }

pub loop-cell-preserved : goal.loop-cell-preserved
loop-cell-preserved c =
    rw (take_more c.args.changed.now c.loop-cell.cell-index c.cell-item.result c.loop-cell-test.true, ← c.cell-item.is)
    (c.touch.ensures.touched c.args.self.now (take c.loop-cell.cell-index c.args.changed.now) c.loop-cell.invariant)

pub settle-requires : goal.settle-requires
settle-requires c =
    let whole : take c.loop-cell.cell-index c.args.changed.now ≡ c.args.changed.now = take_all c.loop-cell.cell-index c.args.changed.now c.loop-cell-test.false in
    record {
      begun = IsInRepair-touched c.requires.consistent.0 c.args.self.now c.loop-cell.self c.args.changed.now c.requires.consistent.1 c.requires.consistent.2 c.requires.consistent.3 (rw whole at c.loop-cell.invariant);
      bound = rw c.loop-cell.invariant.total c.reset.ensures.bound;
    }

pub returns-clause-all_told : goal.returns-clause-all_told
returns-clause-all_told c = rw (← c.loop-cell.invariant.total) c.settle.ensures.all_told
