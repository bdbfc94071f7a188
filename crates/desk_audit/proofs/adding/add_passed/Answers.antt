use Rattle.std.proofs.Common.{List, take, ◌+◌, inl, inr, subst, arith}
use Rattle.std.proofs.lemmas.List.{take_all}
use Rattle.plan_table.specs.Route.{tracks_of}
use Rattle.mapf_rules.specs.Naming.{IsOfPair}
use Rattle.desk_audit.specs.declared.tables.Pass.{Pass}
use Rattle.desk_audit.specs.Seeking.{FindsAll, IsOfPassed}
use Rattle.desk_audit.proofs.Finding.{finds_then, finds_as, passed_split}
use Rattle.desk_audit.proofs.adding.add_passed.Goals as goal
use Rattle.desk_audit.proofs.adding.add_passed.Goals.{then-after-pass+then-pass-last+in_ok-add_pair, else-after-pass, else-after-pass-via-then-after-pass+else-pass-last, else-after-pass-via-else-after-pass}

pub loop-pass-preserved : goal.loop-pass-preserved
loop-pass-preserved c =
    let fleet = tracks_of c.args.mode c.args.plans.now.rows in
    let i = c.loop-pass.pass-index in
    let pass = c.pass-item.result in
    let now = IsOfPassed fleet c.args.after c.args.agent (take i c.args.passes.now) in
    let more = IsOfPassed fleet c.args.after c.args.agent (take (i + 1) c.args.passes.now) in
    let split = passed_split fleet c.args.after c.args.agent c.args.passes.now i pass c.pass-item.is c.loop-pass-test.true in
    elim c.if-after-pass.branch [
      | then-after-pass+then-pass-last+in_ok-add_pair w ↦
          rw w.entries-is (finds_then fleet c.args.agent _ _ _ now (λ e. IsOfPair e pass.time c.args.agent pass.agent) more c.loop-pass.invariant w.in_ok-add_pair.ensures
          (λ e stands of. elim (split e of) [ inl before ↦ inl before | inr here ↦ inr here.2 ]))
      | else-after-pass w ↦
          rw w.entries-is (finds_as fleet c.args.agent _ _ now more
          (λ e stands of. elim (split e of) [
            | inl before ↦ before
            | inr here ↦ elim w.else-after-pass.branch [
              | else-after-pass-via-then-after-pass+else-pass-last w' ↦ absurd (omega (arith, here.1, w'.last.ensures.is, w'.if-pass-last.false))
              | else-after-pass-via-else-after-pass w' ↦ absurd (omega (arith, here.0, w'.if-after-pass.false))
            ]
          ]) c.loop-pass.invariant)
    ]

pub returns : goal.returns
returns c =
    let fleet = tracks_of c.args.mode c.args.plans.now.rows in
    subst (λ (passes : List Pass). FindsAll fleet c.args.agent c.args.entries.now.items c.loop-pass.entries.items (IsOfPassed fleet c.args.after c.args.agent passes)) (take_all c.loop-pass.pass-index c.args.passes.now (omega arith)) c.loop-pass.invariant
