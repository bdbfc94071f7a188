use Rattle.std.proofs.Common.{◌≡◌, ◌+◌, ◌++◌, ◌∷◌, [], Some, length, take, refl, sym, ap, ◌∙◌, arith}
use Rattle.std.specs.List.{slice_get}
use Rattle.std.proofs.lemmas.List.{take_more, length-take-le}
use Rattle.std.proofs.lemmas.Option.{slice_get_read}
use Rattle.desk_commits.specs.Stamps.{AreMarked}
use Rattle.desk_commits.proofs.Stamping.{stamps_push}
use Rattle.desk_commits.proofs.OnMap.{entry_on}
use Rattle.desk_commits.proofs.stamps.Stamps.of.Goals as goal

pub mark_all-requires-clause-on_map : goal.mark_all-requires-clause-on_map
mark_all-requires-clause-on_map c =
    let there : slice_get c.args.journal.now c.loop-index.index ≡ Some c.index-journal-index.result = slice_get_read c.args.journal.now _ c.loop-index.index c.index-journal-index.result refl (omega arith) c.index-journal-index.is in
    rw (c.edits.ensures.is, c.loop-index.invariant.sized) (entry_on c.args.size c.args.journal.now c.loop-index.index c.index-journal-index.result c.requires.on_map there)

pub loop-index-preserved : goal.loop-index-preserved
loop-index-preserved c =
    let more : take (c.loop-index.index + 1) c.args.journal.now ≡ take c.loop-index.index c.args.journal.now ++ c.index-journal-index.result ∷ [] =
    take_more c.args.journal.now c.loop-index.index c.index-journal-index.result (omega arith) ∙ ap (λ e. take c.loop-index.index c.args.journal.now ++ e ∷ []) (sym c.index-journal-index.is) in
    let many : length (take c.loop-index.index c.args.journal.now) ≡ c.loop-index.index = length-take-le c.loop-index.index c.args.journal.now (omega arith) in
    let marked : AreMarked c.loop-index.stamps c.index-journal-index.result.edits (length (take c.loop-index.index c.args.journal.now) + 1) c.mark_all.new.self = rw (many, ← c.edits.ensures.is) c.mark_all.ensures in
    rw more (stamps_push c.args.size (take c.loop-index.index c.args.journal.now) c.index-journal-index.result c.loop-index.stamps c.mark_all.new.self c.loop-index.invariant marked)
