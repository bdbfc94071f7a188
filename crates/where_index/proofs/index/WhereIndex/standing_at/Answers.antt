use Rattle.std.proofs.lemmas.Result.{IfOk-weaker}
use Rattle.where_index.proofs.Positions.{standing_exact, stands_show, tails_show}
use Rattle.where_index.proofs.index.WhereIndex.standing_at.Goals as goal

pub returns : goal.returns
returns c =
    let told = rw c.number-time.ensures at c.agents_of.ensures in
    let stood = rw c.number-time.ensures at c.from-stands.ensures.all in
    IfOk-weaker c.agents_of.result _ _ (λ agents by fleet has.
    let records = rw (← c.self.view_is) at has in
    let is = by c.from-stands.ensures.rising c.from-tails.ensures.rising in
    let e = standing_exact c.self.inside.traffic.stands c.self.inside.traffic.tails c.from-stands.result c.from-tails.result fleet c.args.cell c.args.step (stands_show _ fleet records.traffic.stands) (tails_show _ fleet records.tails) stood c.from-tails.ensures.all in
    record { ascending = is.ascending; exact = λ a. ((λ h. (e a).0 ((is.exact a).0 h)), (λ h. (is.exact a).1 ((e a).1 h))) }) told
