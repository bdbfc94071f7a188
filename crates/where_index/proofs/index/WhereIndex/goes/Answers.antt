use Rattle.std.proofs.Common.{ℕ, ◌<◌, nat_lt, IsTrue, arith}
use mathlib.Core.Logic.{◌↔◌}
use Rattle.std.proofs.lemmas.Bool.Decides.{nat_tests}
use Rattle.where_index.proofs.Going.{goes_exact}
use Rattle.where_index.proofs.index.WhereIndex.goes.Goals as goal

some : (n : ℕ) → IsTrue (nat_lt 0 n) ↔ (0 < n)
some n = ((λ h. grind (arith, nat_tests)), (λ h. grind (arith, nat_tests)))

pub returns : goal.returns
returns c = λ fleet has.
    let records = rw (← c.self.view_is) at has in
    let exact = goes_exact c.self.inside.traffic.flows c.self.inside.traffic.stands fleet c.args.step c.args.way records.traffic.flows records.traffic.stands c.are_within.ensures in
    let is = rw c.number.ensures at c.at.ensures in
    ((λ h. exact.0 (rw (← is) ((some c.at.result).0 h))), (λ g. (some c.at.result).1 (rw is (exact.1 g))))
