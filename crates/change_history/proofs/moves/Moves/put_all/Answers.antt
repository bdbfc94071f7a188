use Rattle.std.proofs.Common.{◌≡◌, ◌∷◌, [], ◌++◌, ◌+◌, take, sym, ap, subst, ◌∙◌, arith}
use Rattle.std.proofs.lemmas.List.{take_more, take_all}
use Rattle.plan_table.specs.Sets.{Gains}
use Rattle.change_history.specs.Moved.{GainsAll}
use Rattle.change_history.proofs.Gathered.{gains_none, gains_more}
use Rattle.change_history.proofs.moves.Moves.put_all.Goals as goal

pub loop-item-init : goal.loop-item-init
loop-item-init g c = record { gains = gains_none c.args.set.now.keys; follows = λ first tell. tell }

pub loop-item-preserved : goal.loop-item-preserved
loop-item-preserved g c =
    let xs = c.args.items.now in
    let item = c.item-item.result in
    let more : take (c.loop-item.item-index + 1) xs ≡ take c.loop-item.item-index xs ++ item ∷ [] = take_more xs c.loop-item.item-index item c.loop-item-test.true ∙ ap (λ e. take c.loop-item.item-index xs ++ e ∷ []) (sym c.item-item.is) in record {
      gains = rw more (gains_more _ _ _ (take c.loop-item.item-index xs) item c.loop-item.invariant.gains (subst (Gains c.loop-item.set.keys c.put.new.set.keys) c.in_ok-copy.ensures c.in_ok-put.ensures.set));
      follows = λ first tell. c.in_ok-put.ensures.follows first (c.loop-item.invariant.follows first tell);
    }

pub returns-clause-set : goal.returns-clause-set
returns-clause-set g c = subst (GainsAll c.args.set.now.keys c.loop-item.set.keys) (take_all c.loop-item.item-index c.args.items.now (omega arith)) c.loop-item.invariant.gains

pub returns-clause-follows : goal.returns-clause-follows
returns-clause-follows g c = c.loop-item.invariant.follows
