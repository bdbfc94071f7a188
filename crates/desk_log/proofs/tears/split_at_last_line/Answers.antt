use Rattle.std.proofs.Common.{◌≡◌, ℕ, [], take, refl, ap, ◌∙◌, arith}
use Rattle.desk_log.proofs.Sealed.{take-lined}
use Rattle.desk_log.proofs.tears.split_at_last_line.Goals.{then-loop-end-test+else-text-end-ne10, else-loop-end-test}
use Rattle.desk_log.proofs.tears.split_at_last_line.Goals as goal

pub returns-clause-lines : goal.returns-clause-lines
returns-clause-lines c =
    elim c.loop-end-test.branch [
      | then-loop-end-test+else-text-end-ne10 w ↦
          let own = take-lined c.args.text.now c.loop-end.end w.loop-end-test.true c.loop-end.invariant.within w.if-text-end-ne10.false in
          (own.lines, own.sound, c.split_at.ensures.front ∙ own.is)
      | else-loop-end-test w ↦
          let none : c.loop-end.end ≡ 0 = omega (arith, w.loop-end-test.false) in
          ([], refl, c.split_at.ensures.front ∙ ap (λ (n : ℕ). take n c.args.text.now) none)
    ]
