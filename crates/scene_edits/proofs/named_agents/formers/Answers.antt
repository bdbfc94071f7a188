use Rattle.std.proofs.Common.{◌≡◌, ℕ, ◌-◌, List, ◌∷◌, All, drop, sym, subst, ap, ◌∙◌, arith}
use Rattle.std.specs.BTreeMap.{keys}
use Rattle.std.proofs.lemmas.Result.{IfOk-weaker}
use Rattle.plan_table.specs.Plans.{row_of}
use Rattle.scene_edits.specs.declared.changes.Change.{Change}
use Rattle.scene_edits.specs.Kept.{past_known, present, before_change, before_changes}
use Rattle.scene_edits.specs.Named.{IsNamed}
use Rattle.scene_edits.specs.declared.named_agents.Former.{Former}
use Rattle.scene_edits.proofs.KeptRows.{formers_hold}
use Rattle.scene_edits.proofs.RowsBefore.{drop_one}
use Rattle.scene_edits.proofs.NamedAgents.{named-more, named_formers}
use Rattle.scene_edits.proofs.named_agents.formers.Goals as goal

pub loop-left-preserved : goal.loop-left-preserved
loop-left-preserved c =
    let at : ℕ = c.loop-left.left - 1 in
    let change : Change = c.index-changes-left.result in
    let front : drop at c.args.changes.now ≡ change ∷ drop c.loop-left.left c.args.changes.now = drop_one c.args.changes.now at c.loop-left.left change (omega arith) (omega arith) c.index-changes-left.is in
    record {
      within = omega arith;
      known = λ agent.
          c.in-Ok.ensures.past agent
          ∙ ap (before_change change agent) (c.loop-left.invariant.known agent)
          ∙ ap (λ (list : List Change). before_changes list agent (present (row_of c.args.plans.now.rows agent))) (sym front);
      named = named-more c.args.changes.now at c.loop-left.left change (keys c.loop-left.rows) (keys c.take_back.new.rows) (omega arith) (omega arith) c.index-changes-left.is c.loop-left.invariant.named c.in-Ok.ensures.named;
    }

pub returns-clause-rows : goal.returns-clause-rows
returns-clause-rows c =
    let none_left : c.loop-left.left ≡ 0 = omega arith in
    let known : (agent : ℕ) → past_known c.loop-left.rows c.args.plans.now.rows agent ≡ before_changes c.args.changes.now agent (present (row_of c.args.plans.now.rows agent)) = λ agent.
    c.loop-left.invariant.known agent ∙ ap (λ n. before_changes (drop n c.args.changes.now) agent (present (row_of c.args.plans.now.rows agent))) none_left in
    IfOk-weaker c.listed.result _ _ (λ v entries. λ before edits is_scene allowed are is.
    formers_hold before edits c.args.changes.now c.args.plans.now.rows c.loop-left.rows v.items is_scene allowed are is c.listed.ensures.ordered known entries) c.listed.ensures.entries

pub returns-clause-named : goal.returns-clause-named
returns-clause-named c =
    let none_left : c.loop-left.left ≡ 0 = omega arith in
    let named : All (IsNamed c.args.changes.now) (keys c.loop-left.rows) = subst (λ n. All (IsNamed (drop n c.args.changes.now)) (keys c.loop-left.rows)) none_left c.loop-left.invariant.named in
    IfOk-weaker c.listed.result _ _ (λ v entries. subst (λ (formers : List Former). All (λ (former : Former). IsNamed c.args.changes.now former.agent) formers) (sym entries) (named_formers c.args.changes.now c.loop-left.rows.entries named)) c.listed.ensures.entries
