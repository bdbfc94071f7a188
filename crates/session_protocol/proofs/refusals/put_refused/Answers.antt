use Rattle.std.proofs.Common.{◌≡◌, ◌++◌, codes, refl}
use Rattle.std.proofs.KnownBytes.{Appends-trans}
use Rattle.desk_commits.specs.declared.answers.Refusal.{Refusal}
use Rattle.desk_commits.specs.declared.answers.Refusal.TheVariants.{JournalFull, Ahead, NoEdits, Stale, Faulty, OutOfMemory}
use Rattle.desk_report.proofs.Fronts.{front-more, front-after, err-of, ok-after, err-after}
use Rattle.session_protocol.specs.RefusalText.{refusal_text, refusal_words, refused_line}
use Rattle.session_protocol.proofs.refusals.put_refused.Goals as goal

-- the line of a refusal is its text between a word and a line feed
line_of_text : (refusal : Refusal) → refused_line (refusal_words refusal) ≡ (codes "refused " ++ refusal_text refusal) ++ codes "\n"
line_of_text (JournalFull limit) = refl
line_of_text (Ahead now) = refl
line_of_text NoEdits = refl
line_of_text (Stale now thing at) = refl
line_of_text (Faulty index why) = refl
line_of_text OutOfMemory = refl

pub returns-in_err-put_all-clause-err : goal.returns-in_err-put_all-clause-err
returns-in_err-put_all-clause-err g c =
    let text = refusal_text c.args.refusal in
    rw (line_of_text c.args.refusal)
    (err-of c.from_residual.result (front-more _ _ (codes "refused " ++ text) (codes "\n") (front-more _ _ (codes "refused ") text c.in_err-put_all.ensures.err)))

pub returns-in_err-put_refusal-clause-err : goal.returns-in_err-put_refusal-clause-err
returns-in_err-put_refusal-clause-err g c =
    let text = refusal_text c.args.refusal in
    rw (line_of_text c.args.refusal)
    (err-of c.from_residual-in_err-put_refusal.result
    (front-more _ _ (codes "refused " ++ text) (codes "\n") (front-after _ _ _ (codes "refused ") text c.in_ok-put_all.ensures.ok c.in_err-put_refusal.ensures.err)))

pub returns-clause-ok : goal.returns-clause-ok
returns-clause-ok g c =
    let text = refusal_text c.args.refusal in
    rw (line_of_text c.args.refusal)
    (ok-after _ _ _ _ (codes "refused " ++ text) (codes "\n") (Appends-trans _ _ _ (codes "refused ") text c.in_ok-put_all.ensures.ok c.in_ok-put_refusal.ensures.ok) c.put_all-2.ensures.ok)

pub returns-clause-err : goal.returns-clause-err
returns-clause-err g c =
    let text = refusal_text c.args.refusal in
    rw (line_of_text c.args.refusal)
    (err-after _ _ _ _ (codes "refused " ++ text) (codes "\n") (Appends-trans _ _ _ (codes "refused ") text c.in_ok-put_all.ensures.ok c.in_ok-put_refusal.ensures.ok) c.put_all-2.ensures.err)
