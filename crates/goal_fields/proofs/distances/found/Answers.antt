use Rattle.std.proofs.Common.{◌∙◌}
use Rattle.goal_fields.proofs.SearchEnds.{IsAtRest-found}
use Rattle.goal_fields.proofs.distances.found.Goals as goal

pub returns-clause-at_rest : goal.returns-clause-at_rest
returns-clause-at_rest c = IsAtRest-found c.run.new.self c.args.grid.now c.args.goal c.run.ensures.found (c.run.ensures.same_map.grid ∙ c.in_ok-search.ensures.target.0) (c.run.ensures.same_map.goal ∙ c.in_ok-search.ensures.target.1)
