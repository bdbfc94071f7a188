use Rattle.std.proofs.Common.{sym, ◌∙◌, subst}
use Rattle.std.proofs.lemmas.Result.{IfOk-weaker}
use Rattle.where_index.specs.Changes.{set_at}
use Rattle.where_index.specs.Traffic.{HasTraffic}
use Rattle.where_index.proofs.Changes.{set_same}
use Rattle.where_index.proofs.Flowing.{HasTraffic-ext}
use Rattle.where_index.proofs.leg_changes.fill_leg.Goals as goal

pub returns-in-Some-clause-set : goal.returns-in-Some-clause-set
returns-in-Some-clause-set c = IfOk-weaker c.add.result _ _ (λ _ g f has is. subst (λ v. HasTraffic c.add.new.self (set_at f c.args.agent c.args.time v)) (sym c.in-Some.is) (g f has is)) c.add.ensures.set

pub returns-in-None-clause-set : goal.returns-in-None-clause-set
returns-in-None-clause-set c = λ f has is. HasTraffic-ext c.args.traffic.now f (set_at f c.args.agent c.args.time c.args.new) (set_same f c.args.agent c.args.time c.args.new (is ∙ sym c.in-None.is)) has
