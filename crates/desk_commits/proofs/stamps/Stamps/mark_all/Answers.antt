use Rattle.std.proofs.Common.{◌≡◌, ◌+◌, ◌++◌, ◌∷◌, [], take, sym, ap, ◌∙◌, arith}
use Rattle.std.proofs.lemmas.List.{take_more}
use Rattle.desk_commits.proofs.Stamping.{marked_push}
use Rattle.desk_commits.proofs.stamps.Stamps.mark_all.Goals as goal

pub loop-edit-preserved : goal.loop-edit-preserved
loop-edit-preserved c =
    let more : take (c.loop-edit.edit-index + 1) c.args.edits.now ≡ take c.loop-edit.edit-index c.args.edits.now ++ c.edit-item.result ∷ [] =
    take_more c.args.edits.now c.loop-edit.edit-index c.edit-item.result (omega arith) ∙ ap (λ e. take c.loop-edit.edit-index c.args.edits.now ++ e ∷ []) (sym c.edit-item.is) in
    rw more (marked_push c.args.self.now c.loop-edit.self c.mark.new.self (take c.loop-edit.edit-index c.args.edits.now) c.edit-item.result c.args.number c.loop-edit.invariant c.mark.ensures)
