use Rattle.std.specs.Prelude.{slice_index_or, Some, None, min}
use Rattle.std.proofs.Common.{arith, sym, ap, refl, inl, inr, ◌≡◌, ◌+◌, ◌-◌, ◌*◌, ◌^◌, ◌<◌, ◌≤◌, ◌⊎◌, ◌∙◌, ℕ, length}
use Rattle.std.proofs.Math.ListN.{set}
use Rattle.grid_cells.specs.Cell.{Point}
use Rattle.goal_fields.specs.Marks.{far}
use Rattle.grid_cells.specs.Size.{Holds}
use Rattle.grid_cells.specs.Grid.{flag_index}
use Rattle.cell_queue.specs.Queue.{area, Queue}
use Rattle.goal_fields.specs.Repair.{key_for}
use Rattle.goal_fields.specs.Lifelong.{IsGood, g_of, count_over}
use Rattle.goal_fields.proofs.TakeLemmas.{IsStep, IsStep-take, IsRhs-good, IsInRepair-step, count_over-le, rhs_in, rhs_in-good}
use Rattle.goal_fields.proofs.FollowLemmas.{g_read, IsTaking-begun, lowered_to}
use Rattle.goal_fields.proofs.UpdateLemmas.{key_at-set, key_at-other}
use Rattle.goal_fields.proofs.lifelong.Lifelong.step.Goals as goal
use Rattle.goal_fields.proofs.lifelong.Lifelong.step.Goals.{then-was-key, else-was-key}

pub returns-clause-goes_on : goal.returns-clause-goes_on
returns-clause-goes_on c d floor inv =
    let held : Holds c.args.self.now.grid.size c.in-Some.least.0 = rw c.requires.queue at c.in-Some.ensures.inside in
    let number : flag_index c.args.self.now.queue.size c.in-Some.least.0 ≡ flag_index c.args.self.now.grid.size c.in-Some.least.0 = rw c.requires.queue refl in
    let g_is : c.index-was.result.now ≡ g_of c.args.self.now c.in-Some.least.0 =
    g_read c.args.self.now c.in-Some.least.0 c.place_of-index.result c.index-was.result.now c.requires.one_g_each c.place_of-index.ensures.bound
    c.place_of-index.ensures.is c.index-was.ensures in
    let case : ((c.in-Some.least.1 < g_of c.args.self.now c.in-Some.least.0) × (c.if-was-key.value ≡ c.in-Some.least.1)) ⊎ ((g_of c.args.self.now c.in-Some.least.0 ≤ c.in-Some.least.1) × (c.if-was-key.value ≡ far)) =
    elim c.if-was-key.branch [
      | then-was-key w ↦ inl (omega (arith, g_is, w.if-was-key.true), w.value-is)
      | else-was-key w ↦ inr (omega (arith, g_is, w.if-was-key.false), w.value-is)
    ] in
    let found : slice_index_or c.args.self.now.queue.keys (flag_index c.args.self.now.grid.size c.in-Some.least.0) None ≡ Some c.in-Some.least.1 = rw number at c.in-Some.ensures.found in
    let least : (v : Point) (other : ℕ) → Holds c.args.self.now.grid.size v → slice_index_or c.args.self.now.queue.keys (flag_index c.args.self.now.grid.size v) None ≡ Some other → c.in-Some.least.1 ≤ other =
    (λ v other h e. c.in-Some.ensures.least v other (rw c.requires.queue h) (rw c.requires.queue e)) in
    let queued : (v : Point) → Holds c.args.self.now.grid.size v → slice_index_or c.args.self.now.queue.keys (flag_index c.args.self.now.grid.size v) None ≡ key_for (g_of c.args.self.now v) (inv.rhs v) =
    (λ v h. rw c.requires.queue at (inv.queued v h)) in
    let g_now : c.ripple.new.self.g.items ≡ set c.args.self.now.g.items (flag_index c.args.self.now.grid.size c.in-Some.least.0) c.if-was-key.value = rw (← c.place_of-index.ensures.is) c.ripple.ensures.same.g in
    let limit : area c.args.self.now.grid.size ≤ 1048576 = c.requires.sized.cells_most in
    let few : c.args.self.now.queue.taken ≤ 2 * length d = omega (arith, inv.counted, count_over-le d c.args.self.now.g.items) in
    let after : c.take_least.new.self.taken ≡ min (c.args.self.now.queue.taken + 1) (2 ^ 64 - 1) = ap (λ (q : Queue). q.taken) c.in-Some.ensures.after in
    let one_more : c.ripple.new.self.queue.taken ≡ c.args.self.now.queue.taken + 1 = omega (arith, c.ripple.ensures.same.taken, after, few, inv.one_each) in
    let low : c.if-was-key.value < g_of c.args.self.now c.in-Some.least.0 → inv.rhs c.in-Some.least.0 ≡ c.if-was-key.value = (λ lt. elim case [
      | inl over ↦ lowered_to (g_of c.args.self.now c.in-Some.least.0) (inv.rhs c.in-Some.least.0) c.in-Some.least.1 (sym (queued c.in-Some.least.0 held) ∙ found) over.0 ∙ sym over.1
      | inr under ↦ absurd (omega (arith, lt, under.1, inv.repairing.bounded c.in-Some.least.0 held))
    ]) in
    let held_q : Holds c.args.self.now.queue.size c.in-Some.least.0 = c.in-Some.ensures.inside in
    let long : length c.args.self.now.queue.keys ≡ area c.args.self.now.queue.size = rw c.requires.queue c.requires.one_key_each in
    let begun = IsTaking-begun c.args.self.now _ c.in-Some.least.0 inv.rhs c.if-was-key.value c.requires held refl refl (rw c.place_of-index.ensures.is refl)
    (rw c.in-Some.ensures.after (key_at-set c.args.self.now.queue c.in-Some.least.0 None held_q long))
    (λ w h apart. rw c.in-Some.ensures.after (key_at-other c.args.self.now.queue c.in-Some.least.0 w None held_q (rw c.requires.queue h) apart))
    inv.repairing.equation inv.queued low in
    let good : (v : Point) → Holds c.ripple.new.self.grid.size v → IsGood c.ripple.new.self v =
    (λ v held_now. c.ripple.ensures.good (g_of c.args.self.now) (rw g_is begun) v (rw (← c.ripple.ensures.same.grid) held_now)) in
    let step : IsStep c.args.self.now.grid c.args.self.now.goal d c.ripple.new.self.g.items (rhs_in c.ripple.new.self good) c.in-Some.least.1 (count_over d c.args.self.now.g.items) (count_over d c.ripple.new.self.g.items) =
    IsStep-take c.args.self.now.grid c.args.self.now.goal d c.args.self.now.g.items c.ripple.new.self.g.items inv.rhs (rhs_in c.ripple.new.self good) c.args.self.now.queue.keys floor c.in-Some.least.1 c.if-was-key.value c.in-Some.least.0 inv.one_each c.requires.one_g_each inv.repairing queued held found least g_now case
    (λ v h. IsRhs-good c.args.self.now c.ripple.new.self c.ripple.ensures.same.grid c.ripple.ensures.same.goal v (rhs_in c.ripple.new.self good v) (rhs_in-good c.ripple.new.self good v (rw c.ripple.ensures.same.grid h)).0) in (
      c.in-Some.least.1,
      IsInRepair-step d c.args.self.now c.ripple.new.self c.in-Some.least.1 c.ripple.ensures.same.grid c.ripple.ensures.same.goal c.ripple.ensures.roomy inv.one_each good step.repairing
          (omega (arith, one_more, inv.counted, step.counted)),
      one_more,
    )

pub returns-clause-all_told : goal.returns-clause-all_told
returns-clause-all_told c = c.ripple.ensures.same.total ∙ ap (λ (q : Queue). q.total) c.in-Some.ensures.after
