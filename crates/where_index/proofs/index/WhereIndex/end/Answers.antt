use Rattle.std.proofs.Common.{Option, Some, None, sym, subst}
use Rattle.plan_table.specs.Route.{Route}
use Rattle.where_index.specs.declared.ends.End.{End}
use Rattle.where_index.specs.Ends.{IsEndOf, EndsAt}
use Rattle.where_index.proofs.index.WhereIndex.end.Goals as goal

said : (end : End) (o : Option Route) → IsEndOf (Some end) o → EndsAt o (Some (end.last, end.cell))
said end None is = is
said end (Some r) is = (is.last, is.cell)

unsaid : (o : Option Route) → IsEndOf None o → EndsAt o None
unsaid None is = tt
unsaid (Some r) is = is

pub returns-in-Some : goal.returns-in-Some
returns-in-Some c = λ fleet has. said c.in-Some.end (fleet c.args.agent) (subst (λ e. IsEndOf e (fleet c.args.agent)) (sym c.in-Some.ensures) (has.ends c.args.agent))

pub returns-in-None : goal.returns-in-None
returns-in-None c = λ fleet has. unsaid (fleet c.args.agent) (subst (λ e. IsEndOf e (fleet c.args.agent)) (sym c.in-None.ensures) (has.ends c.args.agent))
