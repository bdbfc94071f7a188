use Rattle.std.proofs.Common.{◌≡◌, ◌+◌, ◌-◌, drop, ap, ◌∙◌, arith, drop-drop}
use Rattle.change_history.proofs.logs.drop_front.Goals as goal

pub loop-left-preserved : goal.loop-left-preserved
loop-left-preserved g c =
    let left = c.loop-left.left in
    let all : 1 + (left - 1) ≡ left = omega arith in
    ap (drop (left - 1)) c.pop_front.ensures.rest ∙ drop-drop (left - 1) 1 c.loop-left.records.items ∙ ap (λ n. drop n c.loop-left.records.items) all ∙ c.loop-left.invariant
