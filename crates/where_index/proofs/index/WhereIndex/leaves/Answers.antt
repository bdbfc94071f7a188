use Rattle.std.proofs.Common.{◌≡◌, Option, Some, None, Bool, refl, sym, ap, subst}
use Rattle.std.specs.Option.{option_map}
use Rattle.plan_table.specs.Route.{Route}
use Rattle.where_index.specs.declared.ends.End.{End}
use Rattle.where_index.specs.Ends.{IsEndOf}
use Rattle.where_index.proofs.index.WhereIndex.leaves.Goals as goal

said : (end : End) (o : Option Route) → IsEndOf (Some end) o → Some end.leaves ≡ option_map (λ (r : Route). r.leaves) o
said end None is = absurd is
said end (Some r) is = ap (λ (b : Bool). Some b) is.leaves

unsaid : (o : Option Route) → IsEndOf None o → None ≡ option_map (λ (r : Route). r.leaves) o
unsaid None is = refl
unsaid (Some r) is = absurd is

pub returns-in-Some : goal.returns-in-Some
returns-in-Some c = λ fleet has. said c.in-Some.end (fleet c.args.agent) (subst (λ e. IsEndOf e (fleet c.args.agent)) (sym c.in-Some.ensures) (has.ends c.args.agent))

pub returns-in-None : goal.returns-in-None
returns-in-None c = λ fleet has. unsaid (fleet c.args.agent) (subst (λ e. IsEndOf e (fleet c.args.agent)) (sym c.in-None.ensures) (has.ends c.args.agent))
