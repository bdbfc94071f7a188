use Rattle.std.proofs.Common.{rules, ◌≡◌, true, false, slice_index_or, sym, subst}
use Rattle.desk_shared.specs.Numbers.{IsLeastTrue}
use Rattle.desk_shared.proofs.Unused.{first_true_is}
use Rattle.desk_shared.proofs.numbers.least.Goals as goal

pub returns-then-unused-number-clause-some : goal.returns-then-unused-number-clause-some
returns-then-unused-number-clause-some c =
    let unused = c.args.unused.now in
    let same : c.in-Some.planner ≡ c.loop-number.number = search rules in
    let kept : slice_index_or unused c.loop-number.number false ≡ true = search rules in
    subst (IsLeastTrue unused) (sym same)
    (c.loop-number-test.true, first_true_is _ _ kept c.loop-number.invariant, kept, c.loop-number.invariant)
