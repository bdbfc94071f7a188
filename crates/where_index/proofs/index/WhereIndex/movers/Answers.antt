use Rattle.std.proofs.Common.{◌≡◌, ℕ, ◌<◌, List, ◌∷◌, [], ap, arith}
use Rattle.std.specs.List.{AllPairs}
use Rattle.std.specs.Ordering.{nat_cmp, ordering_then}
use Rattle.std.specs.declared.cmp.Ordering.TheVariants.{Less, Equal}
use Rattle.std.proofs.lemmas.Bool.Decides.{nat_tests}
use Rattle.plan_table.specs.Order.{ComesBefore}
use Rattle.where_index.specs.declared.moves.Move.{Move}
use Rattle.where_index.specs.Moves.{AreByAgent}
use Rattle.where_index.specs.Records.{leg_at}
use Rattle.where_index.specs.Index.{all_of}
use Rattle.where_index.proofs.Moving.{movers_exact}
use Rattle.where_index.proofs.index.WhereIndex.movers.Goals as goal

less : (a b : ℕ) → a < b → nat_cmp a b ≡ Less
less a b h = grind (arith, nat_tests)

movers_ascend : (moves : List Move) → AreByAgent moves → AllPairs (λ (a b : Move). ComesBefore (a.agent ∷ []) (b.agent ∷ [])) moves
movers_ascend moves rise i j d lt within = ap (λ o. ordering_then o Equal) (less _ _ (rise i j d lt within))

pub returns : goal.returns
returns c = λ fleet has.
    let records = rw (← c.self.view_is) at has in
    let told = rw c.number.ensures at c.movers.ensures.all in
    let all = told (all_of leg_at fleet) records.traffic in
    record {
      ascending = movers_ascend c.movers.result.now c.movers.ensures.by_agent;
      exact = λ m. let move = movers_exact fleet c.args.cell c.args.step m in ((λ h. move.0 ((all m).0 h)), (λ h. (all m).1 (move.1 h)));
    }
