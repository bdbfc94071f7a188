use Rattle.std.proofs.Common.{◌≡◌, ◌++◌, ◌∷◌, [], ◌+◌, List, ℕ, Some, take, refl, append-nil, sym, ap, subst, ◌∙◌, arith}
use Rattle.std.proofs.lemmas.List.{take_all}
use Rattle.desk_commits.specs.Entries.{Entry}
use Rattle.commit_log.specs.Text.{log_text}
use Rattle.commit_log.specs.Crashes.{Counts}
use Rattle.desk_log.specs.Keeping.{texts_of, LeavesEntries}
use Rattle.desk_log.proofs.Logging.{texts_taken, leaves-put, leaves-all, settled-leaves}
use Rattle.desk_log.proofs.putting.put_entries.Goals as goal

pub loop-entry-init : goal.loop-entry-init
loop-entry-init g c = record {
  counted = λ head before counts. rw (append-nil before) counts;
  logged = λ head before counts is. rw (append-nil before) is;
  left = λ head before left counts is kept leaves. settled-leaves head left _ _ before is kept leaves;
  kept = refl;
}

pub loop-entry-preserved : goal.loop-entry-preserved
loop-entry-preserved g c =
    let inv = c.loop-entry.invariant in
    let i = c.loop-entry.entry-index in
    let es = c.args.entries.now in
    let e = c.entry-item.result in
    let put = c.in_ok-put.ensures in
    let text = c.in-Some.ensures.text in
    record {
      counted = λ head before counts. rw (texts_taken before es i e c.entry-item.is c.loop-entry-test.true, sym text) (put.counted head (texts_of (before ++ take i es)) (inv.counted head before counts));
      logged = λ head before counts is. rw (texts_taken before es i e c.entry-item.is c.loop-entry-test.true, sym text) (put.added head (texts_of (before ++ take i es)) (inv.counted head before counts) (inv.logged head before counts is));
      left = λ head before left counts is kept leaves. leaves-put head left _ _ _ before es i e c.entry-item.is c.loop-entry-test.true text (inv.left head before left counts is kept)
          (put.any_moment head (texts_of (before ++ take i es)) left (inv.counted head before counts) (inv.logged head before counts is) leaves);
      kept = put.kept ∙ inv.kept;
    }

pub returns-in_default-clause-left : goal.returns-in_default-clause-left
returns-in_default-clause-left g c head before left counts is kept leaves =
    leaves-all head left before c.args.entries.now c.loop-entry.entry-index (c.loop-entry.invariant.left head before left counts is kept leaves)

pub returns-in_err-put-clause-left : goal.returns-in_err-put-clause-left
returns-in_err-put-clause-left g c head before left counts is kept leaves =
    let inv = c.loop-entry.invariant in
    let i = c.loop-entry.entry-index in
    let es = c.args.entries.now in
    leaves-all head left before es (i + 1) (leaves-put head left _ _ _ before es i c.entry-item.result c.entry-item.is c.loop-entry-test.true c.in-Some.ensures.text (inv.left head before left counts is kept)
    (c.in_err-put.ensures.any_moment head (texts_of (before ++ take i es)) left (inv.counted head before counts) (inv.logged head before counts is) leaves))

pub returns-clause-counted : goal.returns-clause-counted
returns-clause-counted g c head before counts =
    subst (λ (es : List Entry). Counts head (texts_of (before ++ es)) c.loop-entry.writer.count c.loop-entry.writer.check) (take_all c.loop-entry.entry-index c.args.entries.now (omega arith)) (c.loop-entry.invariant.counted head before counts)

pub returns-clause-logged : goal.returns-clause-logged
returns-clause-logged g c head before counts is =
    subst (λ (es : List Entry). g.L.Log.text c.loop-entry.writer.log ≡ Some (log_text head (texts_of (before ++ es)))) (take_all c.loop-entry.entry-index c.args.entries.now (omega arith)) (c.loop-entry.invariant.logged head before counts is)

pub returns-clause-left : goal.returns-clause-left
returns-clause-left g c head before left counts is kept leaves =
    leaves-all head left before c.args.entries.now c.loop-entry.entry-index (c.loop-entry.invariant.left head before left counts is kept leaves)
