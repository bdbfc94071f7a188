use Rattle.std.proofs.Common.{rules, ◌∷◌, ap, ◌∙◌, refl, Some}
use Rattle.atomic_table.specs.Table.{rest}
use Rattle.desk_shared.specs.Turns.{posed, since}
use Rattle.desk_shared.specs.declared.board.Stage.TheVariants.{Holding}
use Rattle.desk_shared.proofs.Turning.{grows, frees, next_at}
use Rattle.desk_shared.proofs.steps.grow.Goals as goal

pub fetch_add-requires : goal.fetch_add-requires
fetch_add-requires c = let now = c.exchange.ensures.3 ∙ (λ i. (c.args.place.now.me.0, (0, Some c.args.desk) ∷ rest (c.requires.ready.0.2 i))) in
    (search rules, search rules, rw now (grows _ _ _ _ c.requires.ready.0.0 c.requires.ready.0.1 c.requires.ready.1))

pub store-requires : goal.store-requires
store-requires c = let k = c.args.place.now.me.0 in
    let now = c.exchange.ensures.3 ∙ (λ i. (k, (0, Some c.args.desk) ∷ rest (c.requires.ready.0.2 i))) in
    let grew = c.fetch_add.ensures.2 c.args.desk (ap (λ m. m.1) now) ∙ (λ i. (posed (now i).0 Holding (since (now i).0.start c.args.desk), (now i).1)) in
    (search rules, search rules, rw grew (frees _ _ (posed k Holding (since k.start c.args.desk)) _ c.requires.ready.0.0 refl (next_at k c.args.desk c.requires.ready.1)))
