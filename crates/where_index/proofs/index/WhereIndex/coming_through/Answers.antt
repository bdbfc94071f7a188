use Rattle.std.proofs.lemmas.Result.{IfOk-weaker}
use Rattle.where_index.proofs.Positions.{passing_exact, stands_show, tails_show}
use Rattle.where_index.proofs.index.WhereIndex.coming_through.Goals as goal

pub returns : goal.returns
returns c =
    let b1 = rw c.number-time.ensures at c.from-stands.ensures.all in
    let b2 = rw c.number-time.ensures at c.from-tails.ensures.all in
    IfOk-weaker c.passings_of.result _ _ (λ passings is fleet has.
    let records = rw (← c.self.view_is) at has in
    let e = passing_exact c.self.inside.traffic.stands c.self.inside.traffic.tails c.from-stands.result c.from-tails.result fleet c.args.cell c.args.from (stands_show _ fleet records.traffic.stands) (tails_show _ fleet records.tails) b1 b2 in
    record { ascending = is.ascending; exact = λ p. ((λ h. (e p).0 ((is.exact p).0 h)), (λ h. (is.exact p).1 ((e p).1 h))) }) c.passings_of.ensures
