use Rattle.std.proofs.Common.{◌+◌, ◌++◌, ◌∷◌, [], length, subst}
use Rattle.std.proofs.lemmas.Option.{same_Some}
use Rattle.desk_commits.specs.Stamps.{AreStamps, AreMarked}
use Rattle.desk_commits.proofs.Stamping.{stamps_push}
use Rattle.desk_commits.proofs.stamps.with_entry.Goals as goal

pub returns : goal.returns
returns c = λ s there.
    let old : AreStamps c.args.size c.args.journal.now c.in_ok-stamps.stamps = c.requires.stand c.in_ok-stamps.stamps c.in_ok-stamps.was in
    let marked : AreMarked c.in_ok-stamps.stamps c.args.entry.now.edits (length c.args.journal.now + 1) c.mark_all.new.self = rw (← c.edits.ensures.is) c.mark_all.ensures in
    subst (AreStamps c.args.size (c.args.journal.now ++ c.args.entry.now ∷ [])) (same_Some c.mark_all.new.self s there) (stamps_push c.args.size c.args.journal.now c.args.entry.now c.in_ok-stamps.stamps c.mark_all.new.self old marked)
