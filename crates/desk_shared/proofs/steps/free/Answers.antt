use Rattle.std.proofs.Common.{rules, ◌∷◌, ◌∙◌, Some}
use Rattle.atomic_table.specs.Table.{rest}
use Rattle.desk_shared.proofs.Turning.{frees}
use Rattle.desk_shared.proofs.steps.free.Goals as goal

pub store-requires : goal.store-requires
store-requires c = let now = c.exchange.ensures.3 ∙ (λ i. (c.args.place.now.me.0, (0, Some c.args.desk) ∷ rest (c.requires.ready.0.2 i))) in
    (search rules, search rules, rw now (frees _ _ _ _ c.requires.ready.0.0 c.requires.ready.0.1 c.requires.ready.1))
