use Rattle.std.proofs.Common.{◌≡◌, ◌++◌, ◌∷◌, [], length, ap, sym, ◌∙◌, append_assoc, arith}
use Rattle.std.proofs.lemmas.List.{length_push}
use Rattle.std.specs.Vec.Iter.{into_iter_items}
use Rattle.desk_commits.proofs.RunsOn.{IsRun-push}
use Rattle.desk_core.proofs.driving.drive.Goals as goal

pub loop-call-preserved : goal.loop-call-preserved
loop-call-preserved c =
    let rest : into_iter_items c.loop-call.call-iterator ≡ c.in-Some.call ∷ into_iter_items c.next.new.self = c.in-Some.ensures.steps.0 in
    let fewer = ap length rest in
    let more = ap length c.in-Ok-push.ensures.items in
    record {
      can = tt;
      finite = tt;
      all = append_assoc c.loop-call.yielded (c.in-Some.call ∷ []) (into_iter_items c.next.new.self) ∙ ap (λ later. c.loop-call.yielded ++ later) (sym rest) ∙ c.loop-call.invariant.all;
      run = rw c.in-Ok-push.ensures.items (IsRun-push c.args.desk.now c.loop-call.desk c.answer-answer.new.self c.loop-call.yielded c.loop-call.answers.items c.in-Some.call c.answer-answer.result c.loop-call.invariant.run c.answer-answer.ensures);
      room = omega (arith, fewer, more, length_push c.loop-call.answers.items c.answer-answer.result, c.loop-call.invariant.room, c.in-Ok-push.ensures.capacity, c.in-Ok-push.ensures.lower_bound);
    }
