use Rattle.std.proofs.Common.{Some, ap, sym, ◌∙◌, refl, subst}
use Rattle.std.specs.Option.{option_copied_mut, IsSome}
use Rattle.where_index.specs.Crowds.{IsLessened}
use Rattle.where_index.proofs.Crowding.{changes_at}
use Rattle.where_index.proofs.crowds.lose_in.Goals as goal

pub returns-in-Some-clause-lost : goal.returns-in-Some-clause-lost
returns-in-Some-clause-lost c =
    let found = sym c.get_mut.ensures.value ∙ ap option_copied_mut c.in-Some.is in
    changes_at c.args.lists.now.entries _ c.args.cell c.args.time (Some c.lose.new.self) ((c.get_mut.follows.holds c.lose.new.self).3 (subst IsSome (sym found) refl)).0 (IsLessened c.args.agent)
    (subst (λ o. IsLessened c.args.agent o (Some c.lose.new.self)) (sym found) c.lose.ensures)
