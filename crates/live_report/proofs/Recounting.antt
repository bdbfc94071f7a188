-- What a history recounts, one version further, and what it tells of two reports.
use Rattle.std.proofs.Common.{◌≡◌, ◌⊎◌, inl, inr, ℕ, zero, suc, ◌+◌, ◌-◌, ◌<◌, ◌≤◌, List, [], ◌∷◌, ◌++◌, length, drop, refl, sym, ap, subst, ◌∙◌, arith, drop-drop, length-drop, length-append, append-nil, append_assoc}
use Rattle.std.proofs.lemmas.Bool.{cases_lt}
use Rattle.std.proofs.lemmas.List.{drop_all, drop-append-le}
use Rattle.change_history.specs.declared.records.Record.{Record}
use Rattle.change_history.specs.Leading.{Lead, AreSame}
use Rattle.change_history.specs.Logged.{joined, Logs, LeadSince}
use Rattle.change_history.specs.Moved.{AreApart}
use Rattle.change_history.proofs.Leading.{lead_append, same_refl}
use Rattle.desk_report.specs.declared.reports.Report.{Report}
use Rattle.live_report.specs.Histories.{HistoryState, AreEven, Grows, IsFollowed, Keeps, LeadReports, Recounts, TellsSince, records_in, versions_in, without}
use Rattle.live_report.specs.Turnovers.{IsTurnover}
use Rattle.live_report.specs.declared.turnovers.Turnover.{Turnover}
use Rattle.live_report.proofs.KeptVersions.{some_version}

-- ---- one list's log
module _ {X : Type 0} where
  -- from the present version on nothing came or went
  lead_here : (log : List (List (Record X))) (place : ℕ) (old new : List X) → length log ≤ place → old ≡ new → LeadSince log place old new
  lead_here log place old new none same = subst (λ (l : List (List (Record X))). Lead (joined l) old new) (sym (drop_all place log none)) (subst (AreSame old) same (same_refl old))

  joined_push : (log : List (List (Record X))) (records : List (Record X)) → joined (log ++ records ∷ []) ≡ joined log ++ records
  joined_push [] records = append-nil records
  joined_push (part ∷ log) records = ap (λ l. part ++ l) (joined_push log records) ∙ sym (append_assoc part (joined log) records)

  -- one version more
  lead_pushed : (log new : List (List (Record X))) (came gone : List X) (place : ℕ) (first old last : List X) → Logs log came gone new → place ≤ length log → LeadSince log place first old → AreApart old last came gone → LeadSince new place first last
  lead_pushed log new came gone place first old last logs within lead apart =
      let row : joined (drop place new) ≡ joined (drop place log) ++ logs.records = ap (λ l. joined (drop place l)) logs.kept ∙ ap joined (drop-append-le place log (logs.records ∷ []) within) ∙ joined_push (drop place log) logs.records in
      subst (λ (l : List (Record X)). Lead l first last) (sym row) (lead_append (joined (drop place log)) logs.records first old last lead (logs.are.lead old last apart))

  -- the oldest forgotten
  lead_left : (log new : List (List (Record X))) (lost place whole : ℕ) (old last : List X) → new ≡ drop lost log → lost + place ≡ whole → LeadSince log whole old last → LeadSince new place old last
  lead_left log new lost place whole old last left at lead =
      let same : drop place new ≡ drop whole log = ap (drop place) left ∙ drop-drop place lost log ∙ ap (λ n. drop n log) at in
      subst (λ (l : List (List (Record X))). Lead (joined l) old last) (sym same) lead

  long : (log new : List (List (Record X))) (came gone : List X) → Logs log came gone new → length new ≡ length log + 1
  long log new came gone logs = ap length logs.kept ∙ length-append log (logs.records ∷ [])

-- ---- a history
module _ (reports : ℕ → Report → Type 0) where
  -- no version is kept
  pub recounts_none : (now : ℕ) (history : HistoryState) → ((a b : Report) → reports now a → reports now b → a ≡ b) → (report : Report) → reports now report
      → history.conflicts ≡ [] → history.visits ≡ [] → history.lines ≡ [] → Recounts reports now now history
  recounts_none now history one report is conflicts visits lines = record {
    versions = omega (arith, ap length conflicts);
    even = (ap length visits ∙ sym (ap length conflicts), ap length lines ∙ sym (ap length conflicts));
    there = λ version least most. (report, subst (λ v. reports v report) (same version least most) is);
    lead = λ version old new least most was now_is.
        let both : old ≡ new = one old new (subst (λ v. reports v old) (sym (same version least most)) was) now_is in record {
          conflicts = lead_here history.conflicts (version - now) old.conflicts new.conflicts (omega (arith, ap length conflicts)) (ap (λ (r : Report). r.conflicts) both);
          visits = lead_here history.visits (version - now) old.visits new.visits (omega (arith, ap length visits)) (ap (λ (r : Report). r.visits) both);
          lines = lead_here history.lines (version - now) old.lines new.lines (omega (arith, ap length lines)) (ap (λ (r : Report). r.lines) both);
        };
  }
    where
      same : (version : ℕ) → now ≤ version → version ≤ now → now ≡ version
      same version least most = omega arith

  -- the same versions have the same reports by other words
  pub recounts_as : (other : ℕ → Report → Type 0) (first now : ℕ) (history : HistoryState)
      → ((version : ℕ) (report : Report) → first ≤ version → version ≤ now → reports version report → other version report)
      → ((version : ℕ) (report : Report) → first ≤ version → version ≤ now → other version report → reports version report)
      → Recounts reports first now history → Recounts other first now history
  recounts_as other first now history into back was = record {
    versions = was.versions;
    even = was.even;
    there = λ version least most. let w = was.there version least most in (w.0, into version w.0 least most w.1);
    lead = λ version old new least most old_is new_is.
        was.lead version old new least most (back version old least most old_is) (back now new (omega (arith, was.versions)) (omega arith) new_is);
  }

  -- what is told since a version is what came and went since its report
  pub recounts_since : (first now : ℕ) (history : HistoryState) → Recounts reports first now history → (version : ℕ) → first ≤ version → version ≤ now
      → (turnover : Turnover) → TellsSince history (version - first) turnover → (old new : Report) → reports version old → reports now new → IsTurnover old new turnover
  recounts_since first now history was version least most turnover since old new old_is new_is =
      let lead = was.lead version old new least most old_is new_is in record {
        conflicts = λ followed. since.conflicts old.conflicts new.conflicts lead.conflicts;
        visits = λ followed. since.visits old.visits new.visits lead.visits;
        lines = λ followed. since.lines old.lines new.lines lead.lines;
      }

  pub since_within : (first now : ℕ) (history : HistoryState) → Recounts reports first now history → (version : ℕ) → version ≤ now → version - first ≤ versions_in history
  since_within first now history was version most = omega (arith, was.versions)

  -- ---- one version more, and the oldest forgotten
  module _ (first now : ℕ) (old : HistoryState) (turnover : Turnover) (new : HistoryState) (was : Recounts reports first now old) (followed : IsFollowed turnover) (keeps : Keeps old turnover new) where
    longer : (length keeps.grown.conflicts ≡ length old.conflicts + 1) × (length keeps.grown.visits ≡ length old.conflicts + 1) × (length keeps.grown.lines ≡ length old.conflicts + 1)
    longer =
        let conflicts = long old.conflicts keeps.grown.conflicts turnover.conflicts.came turnover.conflicts.gone keeps.grows.conflicts in
        let visits = long old.visits keeps.grown.visits turnover.visits.came turnover.visits.gone keeps.grows.visits in
        let lines = long old.lines keeps.grown.lines turnover.lines.came turnover.lines.gone keeps.grows.lines in
        (conflicts, omega (arith, visits, was.even.0), omega (arith, lines, was.even.1))

    -- no more are forgotten than there are
    lost_few : keeps.lost ≤ length old.conflicts + 1
    lost_few = by_lost keeps.lost refl
      where
        by_lost : (lost : ℕ) → keeps.lost ≡ lost → lost ≤ length old.conflicts + 1
        by_lost zero is = omega arith
        by_lost (suc lost) is =
            let before : HistoryState = without lost keeps.grown in
            let conflicts = length-drop lost keeps.grown.conflicts in
            let visits = length-drop lost keeps.grown.visits in
            let lines = length-drop lost keeps.grown.lines in
            let even : AreEven before.conflicts before.visits before.lines = (omega (arith, conflicts, visits, longer.0, longer.1), omega (arith, conflicts, lines, longer.0, longer.2)) in
            let less : keeps.lost - 1 ≡ lost = omega (arith, is) in
            let many : before.most < records_in before = subst (λ n. keeps.grown.most < records_in (without n keeps.grown)) less (keeps.needed (omega (arith, is))) in
            let some = some_version before even (λ fits. omega (arith, many, fits)) in
            omega (arith, some, conflicts, longer.0)

    lengths : (length new.conflicts ≡ length old.conflicts + 1 - keeps.lost) × (length new.visits ≡ length old.conflicts + 1 - keeps.lost) × (length new.lines ≡ length old.conflicts + 1 - keeps.lost)
    lengths = (
      ap (λ (h : HistoryState). length h.conflicts) keeps.left ∙ length-drop keeps.lost keeps.grown.conflicts ∙ ap (λ n. n - keeps.lost) longer.0,
      ap (λ (h : HistoryState). length h.visits) keeps.left ∙ length-drop keeps.lost keeps.grown.visits ∙ ap (λ n. n - keeps.lost) longer.1,
      ap (λ (h : HistoryState). length h.lines) keeps.left ∙ length-drop keeps.lost keeps.grown.lines ∙ ap (λ n. n - keeps.lost) longer.2,
    )

    -- from an earlier version to the new one
    module _ (version : ℕ) (a b c : Report) (least : first ≤ version) (kept : first + keeps.lost ≤ version) (most : version ≤ now) (to : LeadReports old (version - first) a b) (tells : IsTurnover b c turnover) where
      placed : keeps.lost + (version - (first + keeps.lost)) ≡ version - first
      placed = omega (arith, kept)

      within : version - first ≤ length old.conflicts
      within = omega (arith, was.versions, most)

      lead_on : LeadReports new (version - (first + keeps.lost)) a c
      lead_on = record {
        conflicts = lead_left keeps.grown.conflicts new.conflicts keeps.lost (version - (first + keeps.lost)) (version - first) a.conflicts c.conflicts (ap (λ (h : HistoryState). h.conflicts) keeps.left) placed
            (lead_pushed old.conflicts keeps.grown.conflicts turnover.conflicts.came turnover.conflicts.gone (version - first) a.conflicts b.conflicts c.conflicts keeps.grows.conflicts within to.conflicts (tells.conflicts followed.conflicts));
        visits = lead_left keeps.grown.visits new.visits keeps.lost (version - (first + keeps.lost)) (version - first) a.visits c.visits (ap (λ (h : HistoryState). h.visits) keeps.left) placed
            (lead_pushed old.visits keeps.grown.visits turnover.visits.came turnover.visits.gone (version - first) a.visits b.visits c.visits keeps.grows.visits (omega (arith, within, was.even.0)) to.visits (tells.visits followed.visits));
        lines = lead_left keeps.grown.lines new.lines keeps.lost (version - (first + keeps.lost)) (version - first) a.lines c.lines (ap (λ (h : HistoryState). h.lines) keeps.left) placed
            (lead_pushed old.lines keeps.grown.lines turnover.lines.came turnover.lines.gone (version - first) a.lines b.lines c.lines keeps.grows.lines (omega (arith, within, was.even.1)) to.lines (tells.lines followed.lines));
      }

    lead_same : (a b : Report) → a ≡ b → LeadReports new (now + 1 - (first + keeps.lost)) a b
    lead_same a b both = record {
      conflicts = lead_here new.conflicts (now + 1 - (first + keeps.lost)) a.conflicts b.conflicts (omega (arith, lengths.0, was.versions)) (ap (λ (r : Report). r.conflicts) both);
      visits = lead_here new.visits (now + 1 - (first + keeps.lost)) a.visits b.visits (omega (arith, lengths.1, was.versions)) (ap (λ (r : Report). r.visits) both);
      lines = lead_here new.lines (now + 1 - (first + keeps.lost)) a.lines b.lines (omega (arith, lengths.2, was.versions)) (ap (λ (r : Report). r.lines) both);
    }

    or_new : (version : ℕ) → version ≤ now + 1 → (version ≤ now) ⊎ (now + 1 ≡ version)
    or_new version most = elim (cases_lt version (now + 1)) [ inl earlier ↦ inl (omega arith) | inr last ↦ inr (omega arith) ]

    -- where the present version has a report and the new one has one, from which to which the turnover leads
    pub recounts_more : ((a b : Report) → reports (now + 1) a → reports (now + 1) b → a ≡ b) → (report : Report) → reports (now + 1) report
        → ((a b : Report) → reports now a → reports (now + 1) b → IsTurnover a b turnover) → Recounts reports (first + keeps.lost) (now + 1) new
    recounts_more one report is tells = record {
      versions = omega (arith, lengths.0, lost_few, was.versions);
      even = (lengths.1 ∙ sym lengths.0, lengths.2 ∙ sym lengths.0);
      there = λ version least most. elim (or_new version most) [
        | inl earlier ↦ was.there version (omega (arith, least)) earlier
        | inr last ↦ (report, subst (λ v. reports v report) last is)
      ];
      lead = λ version a c least most a_is c_is. elim (or_new version most) [
        | inl earlier ↦
            let mid = was.there now (omega (arith, was.versions)) (omega arith) in
            lead_on version a mid.0 c (omega (arith, least)) least earlier (was.lead version a mid.0 (omega (arith, least)) earlier a_is mid.1) (tells mid.0 c mid.1 c_is)
        | inr last ↦ subst (λ v. LeadReports new (v - (first + keeps.lost)) a c) last (lead_same a c (one a c (subst (λ v. reports v a) (sym last) a_is) c_is))
      ];
    }
