use Rattle.std.proofs.Common.{eqb-true, arith}
use Rattle.std.proofs.lemmas.Result.{IfOk-weaker}
use Rattle.where_index.specs.Shown.{IsBy}
use Rattle.where_index.proofs.Gathered.{gathers_two, agents_ascend}
use Rattle.where_index.proofs.gathering.agents_of.Goals as goal

pub returns : goal.returns
returns c = IfOk-weaker c.listed.result _ _
    (λ agents is stand tail. record {
      ascending = agents_ascend _ is.0;
      exact = λ a. grind (arith, is.1 eqb-true a, gathers_two (IsBy c.args.time) c.new-found.result.items _ _ c.args.stands c.args.tails c.new-found.ensures.items (c.in_ok-gather_agents.ensures stand) (c.in_ok-gather_agents-2.ensures tail) a);
    })
    c.listed.ensures
