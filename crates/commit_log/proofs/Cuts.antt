-- What a cut leaves of a log, and that a text stands for one list of entries.
use Rattle.std.proofs.Common.{◌≡◌, inl, inr, ℕ, zero, suc, ◌+◌, ◌-◌, ◌<◌, ◌≤◌, ◌^◌, List, [], ◌∷◌, ◌++◌, length, codes, take, drop, refl, ap, sym, ◌∙◌, arith, append_assoc, length-drop, take-append-drop}
use Rattle.std.proofs.lemmas.Bool.{cases_lt}
use Rattle.std.proofs.lemmas.Bool.Decides.{nat_tests}
use Rattle.std.proofs.lemmas.List.{take-append-le, append_cancel_left}
use Rattle.std.proofs.lemmas.List.Elements.{All-head, All-tail}
use Rattle.std.specs.List.{All}
use Rattle.commit_log.specs.Lines.{lines_text, IsBody}
use Rattle.commit_log.specs.Text.{check_of, commit_words, commit_line, sealed, entries_text, head_check}
use Rattle.commit_log.specs.Reads.{IsUnsealed}
use Rattle.commit_log.specs.Laws.{whole_within, CutsLeaveWholeEntries, HasOneListOfEntries}
use Rattle.commit_log.proofs.Feeds.{unsealed-or-whole, first-commit, no-commit}
use Rattle.commit_log.proofs.Commits.{commit-single, commit-begins}
use Rattle.commit_log.proofs.Growing.{nothing-unsealed}

take-none : (n : ℕ) → take {A = ℕ} n [] ≡ []
take-none zero = refl
take-none (suc n) = refl

take-behind : (n : ℕ) (xs ys : List ℕ) → length xs ≤ n → take n (xs ++ ys) ≡ xs ++ take (n - length xs) ys
take-behind n [] ys le = let same : n ≡ n - 0 = omega arith in ap (λ (k : ℕ). take k ys) same
take-behind zero (x ∷ xs) ys le = absurd (omega arith)
take-behind (suc n) (x ∷ xs) ys le =
    let same : n - length xs ≡ suc n - length (x ∷ xs) = omega arith in
    ap (λ (l : List ℕ). x ∷ l) (take-behind n xs ys (omega arith)) ∙ ap (λ (k : ℕ). x ∷ (xs ++ take k ys)) same

within-more : (n k : ℕ) (check e : List ℕ) (es : List (List ℕ)) → length (sealed k check e) ≤ n → whole_within n k check (e ∷ es) ≡ e ∷ whole_within (n - length (sealed k check e)) (k + 1) (check_of check e) es
within-more n k check e es le = grind (arith, nat_tests)

within-none : (n k : ℕ) (check e : List ℕ) (es : List (List ℕ)) → n < length (sealed k check e) → whole_within n k check (e ∷ es) ≡ []
within-none n k check e es less = grind (arith, nat_tests)

pub record CutStands (n k : ℕ) (check : List ℕ) (entries : List (List ℕ)) : Type 0 where
  pub rest : List ℕ
  pub unsealed : IsUnsealed rest
  pub is : take n (entries_text k check entries) ≡ entries_text k check (whole_within n k check entries) ++ rest

-- a front of an entry and its commit line that lacks a byte is unsealed
front-unsealed : (n k : ℕ) (check entry : List ℕ) → IsBody entry → k < 2 ^ 64 → n < length (sealed k check entry) → IsUnsealed (take n (sealed k check entry))
front-unsealed n k check entry lines small less =
    let bytes = sealed k check entry in
    let all : take n bytes ++ drop n bytes ≡ lines_text lines.lines ++ commit_line k (check_of check entry) =
    take-append-drop n bytes ∙ ap (λ (t : List ℕ). t ++ commit_line k (check_of check entry)) lines.is in
    elim (unsealed-or-whole (take n bytes) (drop n bytes) lines.lines (commit_words k (check_of check entry)) lines.sound (commit-single k check entry small) all) [
      | inl u ↦ u
      | inr none ↦ let len = ap length none in absurd (omega (arith, less, len, length-drop n bytes))
    ]

pub cut-from : (n k : ℕ) (check : List ℕ) (entries : List (List ℕ)) → All IsBody entries → k + length entries ≤ 2 ^ 64 → CutStands n k check entries
cut-from n k check [] all small = record { rest = []; unsealed = nothing-unsealed; is = take-none n }
cut-from n k check (e ∷ es) all small =
    let bytes = sealed k check e in
    let others = entries_text (k + 1) (check_of check e) es in
    elim (cases_lt n (length bytes)) [
      | inl less ↦ record {
        rest = take n bytes;
        unsealed = front-unsealed n k check e (All-head IsBody e es all) (omega arith) less;
        is = take-append-le n bytes others (omega (arith, less)) ∙ ap (λ (es : List (List ℕ)). entries_text k check es ++ take n bytes) (sym (within-none n k check e es less));
      }
      | inr more ↦
          let later = cut-from (n - length bytes) (k + 1) (check_of check e) es (All-tail IsBody e es all) (omega arith) in
          record {
            rest = later.rest;
            unsealed = later.unsealed;
            is = take-behind n bytes others more ∙ ap (λ (t : List ℕ). bytes ++ t) later.is
                ∙ sym (append_assoc bytes (entries_text (k + 1) (check_of check e) (whole_within (n - length bytes) (k + 1) (check_of check e) es)) later.rest)
                ∙ ap (λ (es : List (List ℕ)). entries_text k check es ++ later.rest) (sym (within-more n k check e es more));
          }
    ]

pub cuts : CutsLeaveWholeEntries
cuts head entries n all small =
    let cut = cut-from n 1 (head_check head) entries all (omega arith) in
    let texts = entries_text 1 (head_check head) entries in
    let same : length head + n - length head ≡ n = omega arith in
    record {
      rest = cut.rest;
      unsealed = cut.unsealed;
      is = take-behind (length head + n) head texts (omega arith) ∙ ap (λ (k : ℕ). head ++ take k texts) same ∙ ap (λ (t : List ℕ). head ++ t) cut.is
          ∙ sym (append_assoc head (entries_text 1 (head_check head) (whole_within n 1 (head_check head) entries)) cut.rest);
    }

-- an entry, its commit line, and what stands behind it
shape : (k : ℕ) (check entry texts rest : List ℕ) (lines : IsBody entry) → (sealed k check entry ++ texts) ++ rest ≡ lines_text lines.lines ++ (commit_words k (check_of check entry) ++ 10 ∷ (texts ++ rest))
shape k check entry texts rest lines =
    let words = commit_words k (check_of check entry) in
    append_assoc (entry ++ (words ++ codes "\n")) texts rest ∙ append_assoc entry (words ++ codes "\n") (texts ++ rest)
    ∙ ap (λ (t : List ℕ). entry ++ t) (append_assoc words (codes "\n") (texts ++ rest)) ∙ ap (λ (t : List ℕ). t ++ (words ++ 10 ∷ (texts ++ rest))) lines.is

pub same-from : (k : ℕ) (check : List ℕ) (one other : List (List ℕ)) (r1 r2 : List ℕ) → All IsBody one → All IsBody other → k + length one ≤ 2 ^ 64 → k + length other ≤ 2 ^ 64
    → IsUnsealed r1 → IsUnsealed r2 → entries_text k check one ++ r1 ≡ entries_text k check other ++ r2 → one ≡ other
same-from k check [] [] r1 r2 all others small less u1 u2 same = refl
same-from k check [] (f ∷ fs) r1 r2 all others small less u1 u2 same =
    let lines = All-head IsBody f fs others in
    let texts = entries_text (k + 1) (check_of check f) fs in
    absurd (no-commit u1.lines lines.lines u1.piece (commit_words k (check_of check f)) (texts ++ r2) u1.sound lines.sound u1.part (commit-single k check f (omega arith)) (commit-begins k (check_of check f))
    (sym u1.is ∙ same ∙ shape k check f texts r2 lines))
same-from k check (e ∷ es) [] r1 r2 all others small less u1 u2 same =
    let lines = All-head IsBody e es all in
    let texts = entries_text (k + 1) (check_of check e) es in
    absurd (no-commit u2.lines lines.lines u2.piece (commit_words k (check_of check e)) (texts ++ r1) u2.sound lines.sound u2.part (commit-single k check e (omega arith)) (commit-begins k (check_of check e))
    (sym u2.is ∙ sym same ∙ shape k check e texts r1 lines))
same-from k check (e ∷ es) (f ∷ fs) r1 r2 all others small less u1 u2 same =
    let le = All-head IsBody e es all in
    let lf = All-head IsBody f fs others in
    let te = entries_text (k + 1) (check_of check e) es in
    let tf = entries_text (k + 1) (check_of check f) fs in
    let first = first-commit le.lines lf.lines (commit_words k (check_of check e)) (commit_words k (check_of check f)) (te ++ r1) (tf ++ r2) le.sound lf.sound
    (commit-single k check e (omega arith)) (commit-single k check f (omega arith)) (commit-begins k (check_of check e)) (commit-begins k (check_of check f))
    (sym (shape k check e te r1 le) ∙ same ∙ shape k check f tf r2 lf) in
    let entry : e ≡ f = le.is ∙ ap lines_text first.lines ∙ sym lf.is in
    let later : es ≡ fs = same-from (k + 1) (check_of check f) es fs r1 r2 (All-tail IsBody e es all) (All-tail IsBody f fs others) (omega arith) (omega arith) u1 u2
    (ap (λ (t : List ℕ). entries_text (k + 1) (check_of check t) es ++ r1) (sym entry) ∙ first.rest) in
    ap (λ (t : List ℕ). t ∷ es) entry ∙ ap (λ (ts : List (List ℕ)). f ∷ ts) later

pub one_list : HasOneListOfEntries
one_list head one other text all others small less first second =
    same-from 1 (head_check head) one other first.rest second.rest all others (omega arith) (omega arith) first.unsealed second.unsealed
    (append_cancel_left head (entries_text 1 (head_check head) one ++ first.rest) (entries_text 1 (head_check head) other ++ second.rest)
    (sym (append_assoc head (entries_text 1 (head_check head) one) first.rest) ∙ sym first.is ∙ second.is ∙ append_assoc head (entries_text 1 (head_check head) other) second.rest))
