use Rattle.std.proofs.Common.{◌≡◌, Some, Option, List, [], ap, sym, ◌∙◌, refl, subst}
use Rattle.std.specs.Option.{unwrap_or, option_copied_mut, IsSome}
use Rattle.std.proofs.lemmas.Result.{on_ok_weaker, on_err_weaker}
use Rattle.where_index.specs.declared.spot_sets.Spot.{Spot}
use Rattle.plan_table.specs.Sets.{Gains}
use Rattle.where_index.specs.ByCell.{ByCell, spots_at}
use Rattle.where_index.proofs.ByCell.{Puts, gains_at, have_same}
use Rattle.where_index.proofs.spots.add_in.Goals as goal

pub returns-in-Some-clause-gains : goal.returns-in-Some-clause-gains
returns-in-Some-clause-gains c =
    let h = c.get_mut.follows.holds c.add.new.self in
    let found = sym c.get_mut.ensures.value ∙ ap option_copied_mut c.in-Some.is in
    let before : spots_at c.args.sets.now.entries c.args.cell ≡ c.in-Some.set.now = ap (λ (o : Option (List Spot)). unwrap_or o []) found in
    on_ok_weaker c.add.result (λ g. gains_at _ _ c.args.cell (Some c.add.new.self) (h.3 (subst IsSome (sym found) refl)).0 c.args.spot
    (subst (λ l. Gains l c.add.new.self c.args.spot) (sym before) g)) c.add.ensures.gains

pub returns-in-Some-clause-refused : goal.returns-in-Some-clause-refused
returns-in-Some-clause-refused c =
    let h = c.get_mut.follows.holds c.add.new.self in
    let found = sym c.get_mut.ensures.value ∙ ap option_copied_mut c.in-Some.is in
    let before : spots_at c.args.sets.now.entries c.args.cell ≡ c.in-Some.set.now = ap (λ (o : Option (List Spot)). unwrap_or o []) found in
    on_err_weaker c.add.result (λ same. have_same _ _ c.args.cell (Some c.add.new.self) (h.3 (subst IsSome (sym found) refl)).0 (same ∙ sym before)) c.add.ensures.refused

pub returns-clause-gains : goal.returns-clause-gains
returns-clause-gains c =
    let found = sym c.get_mut.ensures.value ∙ ap option_copied_mut c.in_default.is in
    let before : spots_at c.args.sets.now.entries c.args.cell ≡ [] = ap (λ (o : Option (List Spot)). unwrap_or o []) found in
    let gains = rw (c.new-set.ensures) at c.in_ok-add.ensures.gains in
    gains_at c.args.sets.now.entries c.insert.new.self.entries c.args.cell (Some c.add-2.new.self)
    (subst (λ (l : ByCell). Puts l c.insert.new.self.entries c.args.cell (Some c.add-2.new.self)) (ap (λ m. m.entries) c.get_mut.follows.holds-at-none) c.in_ok-insert.ensures.updates.0)
    c.args.spot (subst (λ l. Gains l c.add-2.new.self c.args.spot) (sym before) gains)
