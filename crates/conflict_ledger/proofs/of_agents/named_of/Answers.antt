use Rattle.std.proofs.Common.{◌≡◌, Option, Some, None, sym, ap, ◌∙◌}
use Rattle.std.proofs.lemmas.Result.{IfOk-weaker}
use Rattle.std.specs.Option.{option_map}
use Rattle.plan_table.specs.Route.{Route, route_in, route_of, tracks_of}
use Rattle.plan_table.specs.declared.plans.Row.{Row}
use Rattle.conflict_ledger.proofs.Named.{named_none}
use Rattle.conflict_ledger.proofs.of_agents.named_of.Goals as goal

pub returns-in-Some : goal.returns-in-Some
returns-in-Some c =
    let fleet = tracks_of c.args.mode c.args.plans.now.rows in
    let own : fleet c.args.agent ≡ Some (route_of c.track.result) = ap (option_map (route_in c.args.mode)) (sym c.in-Some.ensures) ∙ ap Some (sym c.track.ensures) in
    IfOk-weaker c.named_along.result _ _ (λ entries gives stands. gives fleet stands own) c.named_along.ensures

pub returns-in-None : goal.returns-in-None
returns-in-None c = λ stands. rw c.new.ensures.items (named_none (tracks_of c.args.mode c.args.plans.now.rows) c.args.agent (ap (option_map (route_in c.args.mode)) (sym c.in-None.ensures)))
