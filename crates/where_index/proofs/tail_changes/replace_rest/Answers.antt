use Rattle.std.proofs.Common.{None, ap, ◌∙◌, arith}
use Rattle.where_index.specs.Records.{leg_between}
use Rattle.where_index.specs.Changes.{set_at}
use Rattle.where_index.proofs.Changes.{HasSpots-ext, set_same, set_twice, set_itself}
use Rattle.where_index.proofs.tail_changes.replace_rest.Goals as goal

pub returns-in_ok-fill_rest-clause-set : goal.returns-in_ok-fill_rest-clause-set
returns-in_ok-fill_rest-clause-set c = λ f has is.
    let next = leg_between c.args.new None in
    let mid = set_at f c.args.agent c.args.time None in
    HasSpots-ext c.fill_rest.new.tails (set_at mid c.args.agent c.args.time next) (set_at f c.args.agent c.args.time next) (set_twice f c.args.agent c.args.time None next)
    (c.in_ok-fill_rest.ensures.set mid (c.clear_rest.ensures f has is) (set_itself f c.args.agent c.args.time None))

pub returns-else-count-gt0-clause-set : goal.returns-else-count-gt0-clause-set
returns-else-count-gt0-clause-set c = λ f has is.
    let next = leg_between c.args.new None in
    HasSpots-ext c.args.tails.now f (set_at f c.args.agent c.args.time next) (set_same f c.args.agent c.args.time next (is ∙ ap (λ o. leg_between o None) (c.count_of-count.ensures.none (omega arith)))) has
