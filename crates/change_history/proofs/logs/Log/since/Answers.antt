use Rattle.std.proofs.Common.{◌≡◌, ◌-◌, length, drop, sum, sym, ap, subst, ◌∙◌, arith}
use Rattle.std.proofs.lemmas.Result.{IfOk-weaker}
use Rattle.change_history.specs.Moved.{Tell}
use Rattle.change_history.specs.Leading.{Lead}
use Rattle.change_history.specs.Logged.{joined}
use Rattle.change_history.proofs.Parts.{sum_behind, joined_since}
use Rattle.change_history.proofs.logs.Log.since.Goals as goal

pub sum_from-count-requires : goal.sum_from-count-requires
sum_from-count-requires g c = omega (arith, c.self.invariant, c.self.inside.records.ok, c.self.inside.records.small)

pub overflow_sub-start : goal.overflow_sub-start
overflow_sub-start g c = omega (arith, c.sum_from-count.ensures, sum_behind c.self.inside.counts.items c.args.version, c.self.invariant, c.len.ensures, c.self.inside.records.ok)

pub moves_from-requires : goal.moves_from-requires
moves_from-requires g c = omega (arith, c.len.ensures, c.self.inside.records.ok)

pub returns : goal.returns
returns g c =
    let counts = c.self.inside.counts.items in
    let row = c.self.inside.records.items in
    let from = c.len.result - c.sum_from-count.result in
    let start : length row - sum (drop c.args.version counts) ≡ from = omega (arith, c.sum_from-count.ensures, c.len.ensures, c.self.inside.records.ok) in
    let same : joined (drop c.args.version c.args.self.now) ≡ drop from row =
    ap (λ l. joined (drop c.args.version l)) (sym c.self.view_is) ∙ joined_since counts row c.args.version c.self.invariant ∙ ap (λ n. drop n row) start in
    IfOk-weaker c.followed_through.result _ _
    (λ moves w old new lead. subst (Tell old new) (sym w.0) (c.moves_from.ensures old new (subst (λ l. Lead l old new) same lead)) w.1)
    c.followed_through.ensures
