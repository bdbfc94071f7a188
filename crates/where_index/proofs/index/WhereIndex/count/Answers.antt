use Rattle.std.proofs.Common.{Option, Some, None, refl, sym, ◌∙◌}
use mathlib.Core.Logic.{◌↔◌}
use Rattle.std.specs.Option.{IsSome}
use Rattle.std.specs.Ordering.{nat_cmp}
use Rattle.std.specs.BTreeMap as tree
use Rattle.std.proofs.lemmas.List.{length-map}
use Rattle.std.proofs.lemmas.Cmp.{nat_cmp_total}
use Rattle.std.proofs.lemmas.Map.Keys.{Less-from_sorted}
use Rattle.std.proofs.lemmas.Map.Lookups.{exact_unsigned}
use Rattle.std.proofs.lemmas.Map.Views.{btree_map_contains_key_iff}
use Rattle.plan_table.specs.Route.{Route}
use Rattle.where_index.specs.declared.ends.End.{End}
use Rattle.where_index.specs.Ends.{IsEndOf}
use Rattle.where_index.proofs.SpotOrder.{from_lt}
use Rattle.where_index.proofs.index.WhereIndex.count.Goals as goal

both : (e : Option End) (o : Option Route) → IsEndOf e o → IsSome e ↔ IsSome o
both None None is = ((λ h. h), (λ h. cc))
both None (Some r) is = absurd is
both (Some e) None is = absurd is
both (Some e) (Some r) is = ((λ h. refl), (λ h. refl))

pub returns : goal.returns
returns c = λ fleet has.
    let records = rw (← c.self.view_is) at has in
    let keyed = btree_map_contains_key_iff nat_cmp_total exact_unsigned c.self.inside.ends in
    record {
      agents = tree.keys c.self.inside.ends;
      ascending = λ i j d lt within. from_lt _ _ (Less-from_sorted nat_cmp (tree.keys c.self.inside.ends) i j d c.len.ensures.ordered lt within);
      exact = λ a. let is = both _ (fleet a) (records.ends a) in ((λ h. is.0 ((keyed a).1 h)), (λ h. (keyed a).0 (is.1 h)));
      many = length-map c.self.inside.ends.entries (λ e. e.0) ∙ sym c.len.ensures.len;
    }
