use Rattle.std.proofs.Common.{◌++◌, true, false, ap, subst, ◌∙◌, append_assoc}
use Rattle.change_history.specs.Leading.{AreRecords}
use Rattle.change_history.proofs.Leading.{one_each, are_records}
use Rattle.change_history.proofs.logs.with_moves.Goals as goal

pub returns : goal.returns
returns g c =
    let came = c.into_sets-came.result.0.keys in
    let gone = c.into_sets-came.result.1.keys in
    let more = one_each true came ++ one_each false gone in (
      more,
      subst (λ xs. AreRecords xs c.args.moves.gone more) c.into_sets-came.ensures.came
          (subst (λ xs. AreRecords came xs more) c.into_sets-came.ensures.gone (are_records g.met.T.Ord.total c.told_apart.ensures came gone c.in_ok-records.ensures.ordered c.in_ok-all.ensures.ordered)),
      c.in_ok-all.ensures.all ∙ ap (λ l. l ++ one_each false gone) c.in_ok-records.ensures.all ∙ append_assoc c.args.records.items (one_each true came) (one_each false gone),
    )
