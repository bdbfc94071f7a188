use Rattle.std.proofs.Common.{◌≡◌, ◌+◌, ◌-◌, ◌<◌, length, inl, inr, refl, sym, ap, subst, ◌∙◌, arith, length-drop}
use Rattle.std.proofs.lemmas.Bool.{cases_lt, false≢true}
use Rattle.live_report.specs.Histories.{HistoryState, records_in, without}
use Rattle.live_report.proofs.KeptVersions.{some_version, without_more}
use Rattle.live_report.proofs.histories.History.push.Goals as goal

pub loop-history-init : goal.loop-history-init
loop-history-init c = record { lost = 0; left = refl; needed = λ some. absurd (omega arith) }

pub loop-history-preserved : goal.loop-history-preserved
loop-history-preserved c =
    let first = c.in_ok-history.history in
    let was = c.loop-history.invariant in
    let same : was.lost + 1 - 1 ≡ was.lost = omega arith in
    let most : c.loop-history.history.most ≡ first.most = ap (λ (h : HistoryState). h.most) was.left in
    let many : first.most < records_in c.loop-history.history = elim (cases_lt first.most (records_in c.loop-history.history)) [ inl more ↦ more | inr few ↦ absurd (false≢true (sym c.loop-history-test.true ∙ c.fits.ensures.1 (omega (arith, few, most)))) ] in
    record {
      lost = was.lost + 1;
      left = without_more was.lost first c.loop-history.history c.forget.new.self was.left c.forget.ensures;
      needed = λ some. subst (λ n. first.most < records_in (without n first)) (sym same) (subst (λ (h : HistoryState). first.most < records_in h) was.left many);
    }

pub loop-history-smaller : goal.loop-history-smaller
loop-history-smaller c =
    let was = c.loop-history.history in
    let shorter = length-drop 1 was.conflicts in
    let now = ap (λ (h : HistoryState). length h.conflicts) c.forget.ensures in
    let some : 0 < length was.conflicts = some_version was c.versions-versions.ensures.even (λ fits. false≢true (sym c.loop-history-test.true ∙ c.fits.ensures.1 fits)) in
    omega (arith, shorter, now, some)

pub returns-clause-kept : goal.returns-clause-kept
returns-clause-kept c =
    let kept = c.loop-history.invariant in record {
      grown = c.in_ok-history.history;
      grows = c.in_ok-history.ensures;
      lost = kept.lost;
      left = kept.left;
      within = c.fits.ensures.0 c.loop-history-test.false;
      needed = kept.needed;
    }
