use Rattle.std.proofs.Common.{List, take, ◌+◌, inl, inr, subst, arith}
use Rattle.std.proofs.lemmas.List.{take_all}
use Rattle.plan_table.specs.Route.{tracks_of}
use Rattle.mapf_rules.specs.Naming.{IsOfPair}
use Rattle.desk_audit.specs.declared.tables.Pass.{Pass}
use Rattle.desk_audit.specs.Seeking.{FindsAll, IsOfMet}
use Rattle.desk_audit.proofs.Finding.{finds_then, finds_as, met_split}
use Rattle.desk_audit.proofs.adding.add_met.Goals as goal
use Rattle.desk_audit.proofs.adding.add_met.Goals.{then-pass-time+in_ok-add_pair, else-pass-time}

pub loop-pass-preserved : goal.loop-pass-preserved
loop-pass-preserved c =
    let fleet = tracks_of c.args.mode c.args.plans.now.rows in
    let i = c.loop-pass.pass-index in
    let pass = c.pass-item.result in
    let now = IsOfMet c.args.time c.args.agent (take i c.args.met.now) in
    let more = IsOfMet c.args.time c.args.agent (take (i + 1) c.args.met.now) in
    let split = met_split c.args.time c.args.agent c.args.met.now i pass c.pass-item.is c.loop-pass-test.true in
    elim c.if-pass-time.branch [
      | then-pass-time+in_ok-add_pair w ↦
          rw w.entries-is (finds_then fleet c.args.agent _ _ _ now (λ e. IsOfPair e c.args.time c.args.agent pass.agent) more c.loop-pass.invariant w.in_ok-add_pair.ensures
          (λ e stands of. elim (split e of) [ inl before ↦ inl before | inr here ↦ inr here.1 ]))
      | else-pass-time w ↦
          rw w.entries-is (finds_as fleet c.args.agent _ _ now more
          (λ e stands of. elim (split e of) [ inl before ↦ before | inr here ↦ absurd (omega (arith, here.0, w.if-pass-time.false)) ]) c.loop-pass.invariant)
    ]

pub returns : goal.returns
returns c =
    let fleet = tracks_of c.args.mode c.args.plans.now.rows in
    subst (λ (met : List Pass). FindsAll fleet c.args.agent c.args.entries.now.items c.loop-pass.entries.items (IsOfMet c.args.time c.args.agent met)) (take_all c.loop-pass.pass-index c.args.met.now (omega arith)) c.loop-pass.invariant
