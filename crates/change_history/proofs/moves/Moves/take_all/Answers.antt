use Rattle.std.proofs.Common.{◌≡◌, ◌∷◌, [], ◌++◌, ◌+◌, take, sym, ap, subst, ◌∙◌, arith}
use Rattle.std.proofs.lemmas.List.{take_more, take_all}
use Rattle.change_history.specs.Moved.{LosesAll}
use Rattle.change_history.proofs.Gathered.{loses_none, loses_more}
use Rattle.change_history.proofs.moves.Moves.take_all.Goals as goal

pub loop-item-init : goal.loop-item-init
loop-item-init g c = record { loses = loses_none c.args.set.now.keys; follows = λ first tell. tell }

pub loop-item-preserved : goal.loop-item-preserved
loop-item-preserved g c =
    let xs = c.args.items.now in
    let item = c.item-item.result in
    let more : take (c.loop-item.item-index + 1) xs ≡ take c.loop-item.item-index xs ++ item ∷ [] = take_more xs c.loop-item.item-index item c.loop-item-test.true ∙ ap (λ e. take c.loop-item.item-index xs ++ e ∷ []) (sym c.item-item.is) in record {
      loses = rw more (loses_more _ _ _ (take c.loop-item.item-index xs) item c.loop-item.invariant.loses c.take.ensures.set);
      follows = λ first tell. c.take.ensures.follows first (c.loop-item.invariant.follows first tell);
    }

pub returns-clause-set : goal.returns-clause-set
returns-clause-set g c = subst (LosesAll c.args.set.now.keys c.loop-item.set.keys) (take_all c.loop-item.item-index c.args.items.now (omega arith)) c.loop-item.invariant.loses

pub returns-clause-follows : goal.returns-clause-follows
returns-clause-follows g c = c.loop-item.invariant.follows
