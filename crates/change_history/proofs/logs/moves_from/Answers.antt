use Rattle.std.proofs.Common.{◌≡◌, ◌+◌, ◌-◌, [], ◌∷◌, ◌++◌, length, take, drop, sym, ap, subst, ◌∙◌, arith, length-drop, get_or-drop}
use Rattle.std.proofs.lemmas.List.{take_more, take_all}
use Rattle.change_history.specs.Moved.{Tell}
use Rattle.change_history.specs.Leading.{Lead}
use Rattle.change_history.proofs.Leading.{follow_more, follow_none}
use Rattle.change_history.proofs.logs.moves_from.Goals as goal

pub loop-place-init : goal.loop-place-init
loop-place-init g c = λ old new same. subst (Tell old new) (sym c.new-moves.ensures) (λ _. follow_none old new same)

pub loop-place-preserved : goal.loop-place-preserved
loop-place-preserved g c =
    let row = drop c.args.start c.args.records.now.items in
    let place = c.loop-place.place in
    let one = c.index-one.result.now in
    let long = length-drop c.args.start c.args.records.now.items in
    let more : take (place + 1) row ≡ take place row ++ one ∷ [] =
    take_more row place one (omega (arith, long, c.len.ensures, c.args.records.now.ok)) ∙ ap (λ r. take place row ++ r ∷ []) (get_or-drop c.args.start c.args.records.now.items place one ∙ sym c.index-one.ensures) in
    λ old new lead. follow_more (take place row) one _ _ c.loop-place.invariant c.count.ensures old new (subst (λ l. Lead l old new) more lead)

pub returns : goal.returns
returns g c =
    let row = drop c.args.start c.args.records.now.items in
    let long = length-drop c.args.start c.args.records.now.items in
    let all : take c.loop-place.place row ≡ row = take_all c.loop-place.place row (omega (arith, long, c.len.ensures, c.args.records.now.ok)) in
    λ old new lead. c.loop-place.invariant old new (subst (λ l. Lead l old new) (sym all) lead)
