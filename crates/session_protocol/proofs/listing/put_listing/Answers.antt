use Rattle.std.specs.Prelude.{map}
use Rattle.std.proofs.KnownBytes.{Appends-trans}
use Rattle.desk_report.specs.Words.{word_text}
use Rattle.desk_report.proofs.Fronts.{front-more, front-after, err-of, ok-after, err-after}
use Rattle.session_protocol.proofs.ItemLines.{line-listing}
use Rattle.session_protocol.proofs.listing.put_listing.Goals as goal

pub returns-in_err-put_words-clause-err : goal.returns-in_err-put_words-clause-err
returns-in_err-put_words-clause-err g c =
    rw (line-listing g.T.Spelled.word c.args.first.now (map word_text c.args.words.now) c.args.items.now)
    (err-of c.from_residual.result (front-more _ _ _ _ (front-more _ _ _ _ c.in_err-put_words.ensures.err)))

pub returns-in_err-put_items-clause-err : goal.returns-in_err-put_items-clause-err
returns-in_err-put_items-clause-err g c =
    rw (line-listing g.T.Spelled.word c.args.first.now (map word_text c.args.words.now) c.args.items.now)
    (err-of c.from_residual-in_err-put_items.result (front-more _ _ _ _ (front-after _ _ _ _ _ c.in_ok-put_words.ensures.ok c.in_err-put_items.ensures.err)))

pub returns-clause-ok : goal.returns-clause-ok
returns-clause-ok g c =
    rw (line-listing g.T.Spelled.word c.args.first.now (map word_text c.args.words.now) c.args.items.now)
    (ok-after _ _ _ _ _ _ (Appends-trans _ _ _ _ _ c.in_ok-put_words.ensures.ok c.in_ok-put_items.ensures.ok) c.put_all.ensures.ok)

pub returns-clause-err : goal.returns-clause-err
returns-clause-err g c =
    rw (line-listing g.T.Spelled.word c.args.first.now (map word_text c.args.words.now) c.args.items.now)
    (err-after _ _ _ _ _ _ (Appends-trans _ _ _ _ _ c.in_ok-put_words.ensures.ok c.in_ok-put_items.ensures.ok) c.put_all.ensures.err)
