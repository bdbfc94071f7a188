use Rattle.std.proofs.Common.{◌≡◌, None, refl}
use Rattle.where_index.proofs.Crowding.{changes_at}
use Rattle.where_index.proofs.crowds.drop_list.Goals as goal

pub returns : goal.returns
returns c = changes_at c.args.lists.now.entries _ c.args.cell c.args.time None c.remove.ensures.updates.0 (λ old new. new ≡ None) refl
