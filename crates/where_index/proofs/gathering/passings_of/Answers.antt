use Rattle.std.proofs.Common.{arith}
use Rattle.std.proofs.lemmas.Result.{IfOk-weaker}
use Rattle.std.proofs.lemmas.Bool.Decides.{nat_tests}
use Rattle.where_index.specs.Shown.{IsPassing}
use Rattle.where_index.proofs.Gathered.{gathers_two, passings_ascend}
use Rattle.where_index.proofs.gathering.passings_of.Goals as goal

pub returns : goal.returns
returns c = IfOk-weaker c.listed.result _ _
    (λ passings is. record {
      ascending = passings_ascend _ is.0;
      exact = λ p. grind (arith, is.1 (λ a b same. grind (arith, nat_tests)) p, gathers_two IsPassing c.new-found.result.items _ _ c.args.stands c.args.tails c.new-found.ensures.items c.in_ok-gather_passings.ensures c.in_ok-gather_passings-2.ensures p);
    })
    c.listed.ensures
