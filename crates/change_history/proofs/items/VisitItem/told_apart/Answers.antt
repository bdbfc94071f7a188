use Rattle.std.proofs.Common.{arith}
use Rattle.std.proofs.lemmas.Bool.Decides.{nat_tests}
use Rattle.change_history.proofs.items.VisitItem.told_apart.Goals as goal

pub returns : goal.returns
returns c = λ a b e. grind (arith, nat_tests)
