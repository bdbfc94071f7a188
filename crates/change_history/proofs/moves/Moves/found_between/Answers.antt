use Rattle.std.proofs.Common.{◌≡◌, [], List, sym, ap, subst, ◌∙◌}
use Rattle.change_history.specs.Moved.{GainsAll, Tell}
use Rattle.change_history.proofs.Gathered.{apart_gone, apart_listed}
use Rattle.change_history.proofs.moves.Moves.found_between.Goals as goal

pub returns : goal.returns
returns g c =
    let before = c.args.before.now in
    let after = c.args.after.now in
    let gone = subst (λ s. GainsAll s c.put_all.new.set.keys before) c.new-gone.ensures.empty c.in_ok-put_all.ensures.set in
    let came = subst (λ s. GainsAll s c.put_all-2.new.set.keys after) c.new-set.ensures.empty c.in_ok-put_all-2.ensures.set in
    let first : Tell before [] c.all_gone-moves.result = subst (Tell before []) (sym c.all_gone-moves.ensures) (λ _. apart_gone before c.put_all.new.set.keys gone) in
    let all = subst (λ s. Tell before s c.all_gone-moves.result → Tell before c.put_all-2.new.set.keys c.put_all-2.new.self) c.new-set.ensures.empty (c.in_ok-put_all-2.ensures.follows before) in
    λ followed. apart_listed before c.put_all-2.new.set.keys after _ _ came (all first followed)
