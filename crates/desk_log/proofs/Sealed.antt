-- A text that begins as an entry and its commit line do.
use Rattle.std.proofs.Common.{◌≡◌, ◌≢◌, ◌⊎◌, inl, inr, ℕ, suc, ◌-◌, ◌<◌, ◌≤◌, ◌^◌, true, false, nat_eq, List, [], ◌∷◌, ◌++◌, length, codes, take, drop, get_or, refl, ap, sym, ◌∙◌, subst, arith, append_assoc, append-nil}
use Rattle.std.proofs.Math.Seq.{drop-cons, take-suc}
use Rattle.std.proofs.lemmas.Bool.{and_parts, cases_eq, ne_eqb}
use Rattle.std.proofs.lemmas.List.Folds.{list_all-append}
use Rattle.std.specs.List.{list_all}
use Rattle.commit_log.specs.Lines.{is_one_line, lines_text, IsBody}
use Rattle.commit_log.specs.Text.{check_of, commit_words, sealed}
use Rattle.commit_log.specs.Reads.{IsUnsealed, IsDamagedAt}
use Rattle.commit_log.proofs.Feeds.{feed-split, line-lines, lines_text-push, first-commit, no-commit}
use Rattle.commit_log.proofs.Commits.{commit-single, commit-begins}

-- the lines of an entry, its commit line, and what stands behind them
shape : (n : ℕ) (check entry rest : List ℕ) (lines : IsBody entry) → sealed n check entry ++ rest ≡ lines_text lines.lines ++ (commit_words n (check_of check entry) ++ 10 ∷ rest)
shape n check entry rest lines =
    let words = commit_words n (check_of check entry) in
    append_assoc entry (words ++ codes "\n") rest ∙ ap (λ (t : List ℕ). entry ++ t) (append_assoc words (codes "\n") rest)
    ∙ ap (λ (t : List ℕ). t ++ (words ++ 10 ∷ rest)) lines.is

-- an entry with its commit line and a rest is so in one way
pub record SameSealed (one other x y : List ℕ) : Type 0 where
  pub entry : one ≡ other
  pub rest : x ≡ y

pub same-sealed : (n : ℕ) (check one other x y : List ℕ) → n < 2 ^ 64 → IsBody one → IsBody other → sealed n check one ++ x ≡ sealed n check other ++ y → SameSealed one other x y
same-sealed n check one other x y small a b same =
    let first = first-commit a.lines b.lines (commit_words n (check_of check one)) (commit_words n (check_of check other)) x y a.sound b.sound
    (commit-single n check one small) (commit-single n check other small) (commit-begins n (check_of check one)) (commit-begins n (check_of check other))
    (sym (shape n check one x a) ∙ same ∙ shape n check other y b) in
    record { entry = a.is ∙ ap lines_text first.lines ∙ sym b.is; rest = first.rest }

-- it is not damaged
pub sealed-sound : (n : ℕ) (check entry x text lost : List ℕ) (at : ℕ) → n < 2 ^ 64 → IsBody entry → sealed n check entry ++ x ≡ text ++ lost → IsDamagedAt text n check at → ⊥
sealed-sound n check entry x text lost at small lines same bad =
    let split : text ++ lost ≡ lines_text bad.lines ++ (bad.line ++ 10 ∷ (bad.more ++ lost)) =
    ap (λ (t : List ℕ). t ++ lost) bad.is ∙ append_assoc (lines_text bad.lines) (bad.line ++ 10 ∷ bad.more) lost
    ∙ ap (λ (t : List ℕ). lines_text bad.lines ++ t) (append_assoc bad.line (10 ∷ bad.more) lost) in
    let first = first-commit lines.lines bad.lines (commit_words n (check_of check entry)) bad.line x (bad.more ++ lost) lines.sound bad.sound
    (commit-single n check entry small) bad.single (commit-begins n (check_of check entry)) bad.begins (sym (shape n check entry x lines) ∙ same ∙ split) in
    bad.other (sym first.commit ∙ ap (λ (t : List ℕ). commit_words n (check_of check t)) (lines.is ∙ ap lines_text first.lines))

-- a text without a commit line has no entry with one
pub sealed-apart : (n : ℕ) (check entry x text : List ℕ) → n < 2 ^ 64 → IsBody entry → text ≡ sealed n check entry ++ x → IsUnsealed text → ⊥
sealed-apart n check entry x text small lines same torn =
    no-commit torn.lines lines.lines torn.piece (commit_words n (check_of check entry)) x torn.sound lines.sound torn.part (commit-single n check entry small) (commit-begins n (check_of check entry))
    (sym torn.is ∙ same ∙ shape n check entry x lines)

split-front : (a b c d : List ℕ) → a ++ b ≡ c ++ d → ((e : List ℕ) × (c ≡ a ++ e)) ⊎ ((e : List ℕ) × (a ≡ c ++ e))
split-front [] b c d same = inl (c, refl)
split-front (x ∷ a) b [] d same = inr (x ∷ a, refl)
split-front (x ∷ a) b (y ∷ c) d same =
    let first : x ≡ y = cc in
    let later : a ++ b ≡ c ++ d = cc in
    elim (split-front a b c d later) [
      | inl e ↦ inl (e.0, ap (λ (n : ℕ). n ∷ c) (sym first) ∙ ap (λ (t : List ℕ). x ∷ t) e.1)
      | inr e ↦ inr (e.0, ap (λ (n : ℕ). n ∷ a) first ∙ ap (λ (t : List ℕ). y ∷ t) e.1)
    ]

-- it lacks something of the entry and its commit line
pub record Lacks (whole text : List ℕ) : Type 0 where
  pub lost : List ℕ
  pub some : lost ≢ []
  pub front : whole ≡ text ++ lost

pub sealed-lacks : (n : ℕ) (check entry x text y : List ℕ) → n < 2 ^ 64 → IsBody entry → sealed n check entry ++ x ≡ text ++ y → IsUnsealed text → Lacks (sealed n check entry) text
sealed-lacks n check entry x text y small lines same torn =
    elim (split-front (sealed n check entry) x text y same) [
      | inl e ↦ absurd (sealed-apart n check entry e.0 text small lines e.1 torn)
      | inr e ↦ record {
        lost = e.0;
        some = λ none. sealed-apart n check entry [] text small lines
            (sym (append-nil text) ∙ ap (λ (t : List ℕ). text ++ t) (sym none) ∙ sym e.1 ∙ sym (append-nil (sealed n check entry))) torn;
        front = e.1;
      }
    ]

-- whole lines of a front of lines and of one more are the first of them
pub record FirstLines (lines all : List (List ℕ)) (piece lost last : List ℕ) : Type 0 where
  pub others : List (List ℕ)
  pub front : all ≡ lines ++ others
  pub last_is : others ≡ [] → piece ++ lost ≡ last ++ codes "\n"

none-behind : (a b c : List ℕ) → a ++ (b ++ c) ≡ [] → c ≡ []
none-behind [] [] c same = same
none-behind [] (y ∷ b) c same = cc
none-behind (x ∷ a) b c same = cc

pub first-lines : (lines all : List (List ℕ)) (piece lost last : List ℕ) → list_all is_one_line lines ≡ true → list_all is_one_line all ≡ true → is_one_line last ≡ true → lost ≢ []
    → lines_text lines ++ (piece ++ lost) ≡ lines_text all ++ (last ++ codes "\n") → FirstLines lines all piece lost last
first-lines [] all piece lost last sound whole single some same = record {
  others = all;
  front = refl;
  last_is = λ none. same ∙ ap (λ (ls : List (List ℕ)). lines_text ls ++ (last ++ codes "\n")) none;
}
first-lines (line ∷ lines) [] piece lost last sound whole single some same =
    let own = and_parts (is_one_line line) (list_all is_one_line lines) sound in
    let split = feed-split line last (lines_text lines ++ (piece ++ lost)) [] own.0 single (sym (line-lines line lines (piece ++ lost)) ∙ same) in
    absurd (some (none-behind (lines_text lines) piece lost split.rest))
first-lines (line ∷ lines) (next ∷ all) piece lost last sound whole single some same =
    let own = and_parts (is_one_line line) (list_all is_one_line lines) sound in
    let other = and_parts (is_one_line next) (list_all is_one_line all) whole in
    let split = feed-split line next (lines_text lines ++ (piece ++ lost)) (lines_text all ++ (last ++ codes "\n")) own.0 other.0
    (sym (line-lines line lines (piece ++ lost)) ∙ same ∙ line-lines next all (last ++ codes "\n")) in
    let later = first-lines lines all piece lost last own.1 other.1 single some split.rest in
    record {
      others = later.others;
      front = ap (λ (l : List ℕ). l ∷ all) (sym split.line) ∙ ap (λ (ls : List (List ℕ)). line ∷ ls) later.front;
      last_is = later.last_is;
    }

-- the lines of a text that ends with a line feed
pub record Lined (text : List ℕ) : Type 0 where
  pub lines : List (List ℕ)
  pub sound : list_all is_one_line lines ≡ true
  pub is : text ≡ lines_text lines

-- lines, and a piece of one more
pub record Halves (text : List ℕ) : Type 0 where
  pub lines : List (List ℕ)
  pub piece : List ℕ
  pub sound : list_all is_one_line lines ≡ true
  pub part : is_one_line piece ≡ true
  pub is : text ≡ lines_text lines ++ piece

halves-more : (x : ℕ) (text piece : List ℕ) (lines : List (List ℕ)) → nat_eq x 10 ≡ false → list_all is_one_line lines ≡ true → is_one_line piece ≡ true → text ≡ lines_text lines ++ piece → Halves (x ∷ text)
halves-more x text piece [] other sound part is = record { lines = []; piece = x ∷ piece; sound = refl; part = rw (other, part) refl; is = ap (λ (t : List ℕ). x ∷ t) is }
halves-more x text piece (line ∷ lines) other sound part is =
    let own = and_parts (is_one_line line) (list_all is_one_line lines) sound in
    record { lines = (x ∷ line) ∷ lines; piece = piece; sound = rw (other, own.0, own.1) refl; part = part; is = ap (λ (t : List ℕ). x ∷ t) is }

halves : (text : List ℕ) → Halves text
halves [] = record { lines = []; piece = []; sound = refl; part = refl; is = refl }
halves (x ∷ text) =
    let later = halves text in
    elim (cases_eq x 10) [
      | inl feed ↦ record { lines = [] ∷ later.lines; piece = later.piece; sound = later.sound; part = later.part; is = ap (λ (n : ℕ). n ∷ text) feed ∙ ap (λ (t : List ℕ). 10 ∷ t) later.is }
      | inr other ↦ halves-more x text later.piece later.lines (ne_eqb x 10 other) later.sound later.part later.is
    ]

ends-lined : (front : List ℕ) → Lined (front ++ codes "\n")
ends-lined front =
    let parts = halves front in
    record {
      lines = parts.lines ++ parts.piece ∷ [];
      sound = list_all-append is_one_line parts.lines (parts.piece ∷ []) ∙ rw (parts.sound, parts.part) refl;
      is = ap (λ (t : List ℕ). t ++ codes "\n") parts.is ∙ append_assoc (lines_text parts.lines) parts.piece (codes "\n") ∙ sym (lines_text-push parts.lines parts.piece);
    }

pub take-lined : (text : List ℕ) (end : ℕ) → 0 < end → end ≤ length text → get_or text (end - 1) 0 ≡ 10 → Lined (take end text)
take-lined text end some within feed =
    let last : end ≡ suc (end - 1) = omega (arith, some) in
    let less : end - 1 < length text = omega (arith, some, within) in
    let split : take end text ≡ take (end - 1) text ++ codes "\n" =
    ap (λ (n : ℕ). take n text) last ∙ take-suc text (end - 1) 0 less ∙ ap (λ (n : ℕ). take (end - 1) text ++ n ∷ []) feed in
    subst Lined (sym split) (ends-lined (take (end - 1) text))

pub one-line-more : (text : List ℕ) (end : ℕ) → 0 < end → end ≤ length text → is_one_line (drop end text) ≡ true → nat_eq (get_or text (end - 1) 0) 10 ≡ false → is_one_line (drop (end - 1) text) ≡ true
one-line-more text end some within one other =
    let last : suc (end - 1) ≡ end = omega (arith, some) in
    ap is_one_line (drop-cons text (end - 1) 0 (omega (arith, some, within)) ∙ ap (λ (n : ℕ). get_or text (end - 1) 0 ∷ drop n text) last) ∙ rw (other, one) refl
