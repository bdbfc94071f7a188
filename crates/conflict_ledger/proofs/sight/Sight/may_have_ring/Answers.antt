use Rattle.std.proofs.Common.{IsTrue, sym, ◌∙◌}
use mathlib.Core.Bool.{false≢true}
use Rattle.where_index.specs.declared.ways.Way.{Way}
use Rattle.where_index.specs.declared.ways.Way.TheVariants.{Up, Left, Right, Down}
use Rattle.where_index.specs.Asked.{Goes}
use Rattle.conflict_ledger.proofs.Returns.{goes_round}
use Rattle.conflict_ledger.proofs.Sighted.{shown_steps}
use Rattle.conflict_ledger.proofs.sight.Sight.may_have_ring.Goals as goal
use Rattle.conflict_ledger.proofs.sight.Sight.may_have_ring.Goals.{then-may_go, else-may_go, then-may_go-2, else-may_go-2}

pub returns-then-may_go-3 : goal.returns-then-may_go-3
returns-then-may_go-3 c fleet ring shows is = c.may_go-then-may_go-3.ensures fleet shows (goes_round fleet c.args.time ring is (shown_steps _ _ _ fleet shows c.own_is_path.ensures c.args.time) Down)

pub returns-else-may_go-3 : goal.returns-else-may_go-3
returns-else-may_go-3 c fleet ring shows is =
    let goes : (way : Way) → Goes fleet c.args.time way = goes_round fleet c.args.time ring is (shown_steps _ _ _ fleet shows c.own_is_path.ensures c.args.time) in
    let two : IsTrue c.if-may_go.value = elim c.if-may_go.branch [
      | then-may_go w ↦ w.value-is ∙ w.may_go-then-may_go.ensures fleet shows (goes Left)
      | else-may_go w ↦ absurd (false≢true (sym w.if-may_go.false ∙ c.may_go.ensures fleet shows (goes Up)))
    ] in
    elim c.if-may_go-2.branch [
      | then-may_go-2 w ↦ w.value-is ∙ w.may_go-then-may_go-2.ensures fleet shows (goes Right)
      | else-may_go-2 w ↦ absurd (false≢true (sym w.if-may_go-2.false ∙ two))
    ]
