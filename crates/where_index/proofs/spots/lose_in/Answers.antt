use Rattle.std.proofs.Common.{◌≡◌, Some, Option, List, [], ap, sym, ◌∙◌, refl, subst}
use Rattle.std.specs.Option.{unwrap_or, option_copied_mut, IsSome}
use Rattle.where_index.specs.declared.spot_sets.Spot.{Spot}
use Rattle.plan_table.specs.Sets.{Loses}
use Rattle.where_index.specs.ByCell.{spots_at}
use Rattle.where_index.proofs.ByCell.{loses_at}
use Rattle.where_index.proofs.spots.lose_in.Goals as goal

pub returns-in-Some-clause-loses : goal.returns-in-Some-clause-loses
returns-in-Some-clause-loses c =
    let h = c.get_mut.follows.holds c.lose.new.self in
    let found = sym c.get_mut.ensures.value ∙ ap option_copied_mut c.in-Some.is in
    let before : spots_at c.args.sets.now.entries c.args.cell ≡ c.in-Some.set.now = ap (λ (o : Option (List Spot)). unwrap_or o []) found in
    loses_at _ _ c.args.cell (Some c.lose.new.self) (h.3 (subst IsSome (sym found) refl)).0 c.args.spot.now
    (subst (λ l. Loses l c.lose.new.self c.args.spot.now) (sym before) c.lose.ensures.loses)
