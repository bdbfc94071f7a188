use Rattle.std.proofs.Common.{None, sym, ap, ◌∙◌, subst}
use Rattle.std.proofs.lemmas.Result.{on_ok_weaker}
use Rattle.where_index.specs.Records.{hop, leg_between}
use Rattle.where_index.specs.Changes.{HasSpots, set_at}
use Rattle.where_index.proofs.Changes.{HasSpots-ext, set_same, fills}
use Rattle.where_index.proofs.tail_changes.fill_rest.Goals as goal

pub returns-in-Some-clause-set : goal.returns-in-Some-clause-set
returns-in-Some-clause-set c = on_ok_weaker c.add.result (λ g f has is. subst (λ v. HasSpots c.add.new.self (set_at f c.args.agent c.args.time (leg_between v None))) (sym c.in-Some.is)
    (fills c.args.tails.now c.add.new.self c.args.agent c.args.time (hop c.in-Some.cell c.in-Some.cell) f (rw c.rest.ensures at g) has is)) c.add.ensures

pub returns-in-None-clause-set : goal.returns-in-None-clause-set
returns-in-None-clause-set c = λ f has is. HasSpots-ext c.args.tails.now f (set_at f c.args.agent c.args.time (leg_between c.args.new None)) (set_same f c.args.agent c.args.time (leg_between c.args.new None) (is ∙ sym (ap (λ o. leg_between o None) c.in-None.is))) has
