use Rattle.std.proofs.Common.{◌≡◌, ℕ, Some, refl, subst}
use Rattle.std.specs.List.{slice_get}
use Rattle.std.proofs.lemmas.Option.{slice_get_read}
use Rattle.desk_audit.proofs.shares.share_at.Goals as goal

pub returns-clause-at : goal.returns-clause-at
returns-clause-at c =
    let found = c.index-index-number_at in
    let at = slice_get_read c.args.index.now _ c.number_at.result found.result refl c.number_at.ensures.bound found.is in
    subst (λ (n : ℕ). slice_get c.args.index.now n ≡ Some found.result) c.number_at.ensures.is at

pub returns-clause-moments : goal.returns-clause-moments
returns-clause-moments c = (c.requires.filed _ _ (returns-clause-at c)).0

pub returns-clause-rests : goal.returns-clause-rests
returns-clause-rests c = (c.requires.filed _ _ (returns-clause-at c)).1
