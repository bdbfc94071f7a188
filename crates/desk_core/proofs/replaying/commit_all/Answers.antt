use Rattle.std.proofs.Common.{◌≡◌, ◌+◌, ◌++◌, ◌∷◌, [], Err, ap, sym, subst, ◌∙◌, append_assoc, arith}
use Rattle.std.proofs.lemmas.List.{length_push}
use Rattle.std.specs.Vec.Iter.{into_iter_items}
use Rattle.desk_commits.specs.State.{DeskState, grown, after}
use Rattle.desk_commits.specs.Commits.{Accepts, Refuses}
use Rattle.desk_commits.specs.Replays.{Recommits, fault_of}
use Rattle.desk_commits.proofs.Replaying.{IsLegal-push, after-push, recommits_refused}
use Rattle.desk_core.proofs.replaying.commit_all.Goals as goal

pub loop-entry-preserved : goal.loop-entry-preserved
loop-entry-preserved c =
    let rest : into_iter_items c.loop-entry.entry-iterator ≡ c.in-Some.entry ∷ into_iter_items c.next.new.self = c.in-Some.ensures.steps.0 in
    let done = c.loop-entry.yielded in
    let accepts : Accepts (after c.args.desk c.loop-entry.yielded) c.in-Some.entry = subst (λ desk. Accepts desk c.in-Some.entry) c.loop-entry.invariant.now c.in-Ok.ensures.0 in
    let new : c.commit.new.self ≡ grown c.loop-entry.desk c.in-Some.entry = c.in-Ok.ensures.2 in
    let grows = ap (λ (desk : DeskState). grown desk c.in-Some.entry) c.loop-entry.invariant.now in
    record {
      can = tt;
      finite = tt;
      all = append_assoc c.loop-entry.yielded (c.in-Some.entry ∷ []) (into_iter_items c.next.new.self) ∙ ap (λ later. c.loop-entry.yielded ++ later) (sym rest) ∙ c.loop-entry.invariant.all;
      legal = IsLegal-push c.args.desk c.loop-entry.yielded c.in-Some.entry c.loop-entry.invariant.legal accepts;
      now = new ∙ grows ∙ sym (after-push c.args.desk c.loop-entry.yielded c.in-Some.entry);
      counted = omega (arith, c.loop-entry.invariant.counted, length_push c.loop-entry.yielded c.in-Some.entry);
    }

pub returns-in-Err : goal.returns-in-Err
returns-in-Err c =
    let rest : into_iter_items c.loop-entry.entry-iterator ≡ c.in-Some.entry ∷ into_iter_items c.next.new.self = c.in-Some.ensures.steps.0 in
    let all = ap (λ later. c.loop-entry.yielded ++ later) (sym rest) ∙ c.loop-entry.invariant.all in
    let refuses : Refuses (after c.args.desk c.loop-entry.yielded) c.in-Some.entry c.in-Err.why = subst (λ desk. Refuses desk c.in-Some.entry c.in-Err.why) c.loop-entry.invariant.now c.in-Err.ensures.0 in
    let counted = ap (λ n. fault_of (n + 1) c.in-Err.why) c.loop-entry.invariant.counted in
    subst (λ fault. Recommits c.args.desk c.args.entries.items (Err fault)) (sym (c.refused.ensures ∙ counted))
    (recommits_refused c.args.desk c.loop-entry.yielded (into_iter_items c.next.new.self) c.args.entries.items c.in-Some.entry c.in-Err.why all c.loop-entry.invariant.legal refuses)
