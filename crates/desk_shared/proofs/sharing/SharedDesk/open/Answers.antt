use Rattle.std.proofs.Common.{rules, arith, ℕ, [], ◌∷◌, sym, subst, None}
use Rattle.atomic_table.specs.Table.{opening}
use Rattle.desk_commits.specs.State.{DeskState}
use Rattle.desk_shared.specs.Calls.{MayShare}
use Rattle.desk_shared.specs.Turns.{Ruled, first_known}
use Rattle.desk_shared.proofs.Kept.{starts}
use Rattle.desk_shared.proofs.sharing.SharedDesk.open.Goals as goal

pub vacant-made-requires : goal.vacant-made-requires
vacant-made-requires c = subst (λ (z : ℕ × DeskState). Ruled (opening (z.0 ∷ 1 ∷ []) (None ∷ []) (first_known z.1 c.args.planners c.numbers_to.result))) (λ i. (sym c.version.ensures.is i, sym c.of.ensures i))
    (starts c.args.desk c.args.planners c.numbers_to.result (let is = c.limit.ensures in let bound = c.entries-limit.ensures.bound in let same = c.entries-limit.ensures.is in omega arith) (let within = c.version.ensures.within in let is = c.version.ensures.is in omega arith) (let may : MayShare c.args.planners = search rules in omega (arith, may.0)) (λ u e. let has = (c.numbers_to.ensures u).0 e in (has.1, λ z. omega arith)))
