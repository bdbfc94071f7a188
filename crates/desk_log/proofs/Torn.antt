-- What is left of an entry and its commit line: first lines of the entry, or the entry and a front of that line.
use Rattle.std.proofs.Common.{◌≡◌, ◌<◌, ◌^◌, ℕ, true, false, nat_eq, take, List, [], ◌∷◌, ◌++◌, length, map, codes, refl, ap, sym, ◌∙◌, inl, inr, arith, append_assoc, append-nil}
use Rattle.std.proofs.lemmas.Bool.{cases_lt, and_parts}
use Rattle.std.proofs.lemmas.List.Elements.{All-head, All-tail}
use Rattle.std.proofs.lemmas.List.Folds.{list_all-append}
use Rattle.std.specs.List.{All, list_all, starts_with}
use Rattle.std.specs.Cmp.Lexicographic.{other_text}
use Rattle.std.proofs.Math.Seq.{take-append_seam}
use Rattle.scene_edits.specs.declared.changes.Thing.{Thing}
use Rattle.scene_edits.specs.declared.edits.Edit.{Edit}
use Rattle.desk_commits.specs.Entries.{Entry}
use Rattle.journal_text.specs.Ranges.{IsThing, IsEdit, IsEntry}
use Rattle.journal_text.specs.Lines.{watch_words, edit_words, entry_lines, text_of}
use Rattle.journal_text.specs.Fitting.{IsEntryOf, IsFrontOfEntry}
use Rattle.journal_text.proofs.PlainWords.{are_plain, plain-watch, plain-edit, plain-entry}
use Rattle.journal_text.proofs.PlainLines.{are_lines, text-split}
use Rattle.journal_text.proofs.BadLines.{nothing}
use Rattle.journal_text.proofs.EntryFronts.{one-entry}
use Rattle.commit_log.specs.Lines.{is_one_line, is_entry_line, lines_text}
use Rattle.commit_log.specs.Text.{check_of, commit_words, commit_line}
use Rattle.commit_log.proofs.Feeds.{entry-line}
use Rattle.commit_log.proofs.Commits.{commit-single}
use Rattle.desk_log.specs.Reading.{IsTear}
use Rattle.desk_log.proofs.Bodies.{line_of, entry-lines, joined}
use Rattle.desk_log.proofs.Sealed.{first-lines}

abbrev Lines : Type 0
Lines = List (List (List ℕ))

all-single : (lines : List (List ℕ)) → list_all is_entry_line lines ≡ true → list_all is_one_line lines ≡ true
all-single [] sound = refl
all-single (line ∷ lines) sound = let own = entry-line line lines sound in rw (own.0, all-single lines own.2) refl

plain-watches : (watch : List Thing) → All IsThing watch → are_lines (map watch_words watch) ≡ true
plain-watches [] lawful = refl
plain-watches (thing ∷ watch) lawful = rw (plain-watch thing (All-head IsThing thing watch lawful), plain-watches watch (All-tail IsThing thing watch lawful)) refl

plain-edits : (edits : List Edit) → All IsEdit edits → are_lines (map edit_words edits) ≡ true
plain-edits [] lawful = refl
plain-edits (edit ∷ edits) lawful = rw (plain-edit edit (All-head IsEdit edit edits lawful), plain-edits edits (All-tail IsEdit edit edits lawful)) refl

plain-entry-lines : (entry : Entry) → IsEntry entry → are_lines (entry_lines entry) ≡ true
plain-entry-lines entry lawful =
    let both : are_lines (map watch_words entry.watch ++ map edit_words entry.edits) ≡ true =
    list_all-append are_plain (map watch_words entry.watch) (map edit_words entry.edits) ∙ rw (plain-watches entry.watch lawful.watch, plain-edits entry.edits lawful.edits) refl in
    rw (plain-entry entry.planner entry.base (length entry.watch) (length entry.edits) lawful.numbers, both) refl

-- some of the lines, and the others
pub record Parts (all : Lines) (some others : List (List ℕ)) : Type 0 where
  pub front : Lines
  pub more : Lines
  pub split : all ≡ front ++ more
  pub some_is : some ≡ map line_of front
  pub others_is : others ≡ map line_of more

parts : (all : Lines) (some others : List (List ℕ)) → map line_of all ≡ some ++ others → Parts all some others
parts all [] others same = record { front = []; more = all; split = refl; some_is = refl; others_is = sym same }
parts [] (line ∷ some) others same = cc
parts (words ∷ all) (line ∷ some) others same =
    let first : line_of words ≡ line = cc in
    let rest : map line_of all ≡ some ++ others = cc in
    let later = parts all some others rest in
    record {
      front = words ∷ later.front;
      more = later.more;
      split = ap (λ (ls : Lines). words ∷ ls) later.split;
      some_is = ap (λ (l : List ℕ). l ∷ some) (sym first) ∙ ap (λ (ls : List (List ℕ)). line_of words ∷ ls) later.some_is;
      others_is = later.others_is;
    }

same-lines : (a b : Lines) → are_lines a ≡ true → are_lines b ≡ true → text_of a ≡ text_of b → a ≡ b
same-lines a b one other is =
    let same : text_of a ++ [] ≡ text_of b ++ [] = ap (λ (t : List ℕ). t ++ []) is in
    elim (cases_lt (length a) (length b)) [
      | inl less ↦
          let split = text-split a b [] [] one other (omega arith) same in
          sym (split.lines ∙ ap (λ (l : Lines). a ++ l) (nothing split.more [] split.rest).0 ∙ append-nil a)
      | inr less ↦
          let split = text-split b a [] [] other one less (sym same) in
          split.lines ∙ ap (λ (l : Lines). b ++ l) (nothing split.more [] split.rest).0 ∙ append-nil b
    ]

-- first lines of an entry that are those of an entry are all of its lines
whole-lines : (entry other : Entry) (front more : Lines) → IsEntry entry → IsEntry other → entry_lines entry ≡ front ++ more → text_of front ≡ text_of (entry_lines other) → more ≡ []
whole-lines entry other front more lawful one split same =
    let plain : are_lines front ≡ true =
    (and_parts (are_lines front) (are_lines more) (sym (list_all-append are_plain front more) ∙ ap are_lines (sym split) ∙ plain-entry-lines entry lawful)).0 in
    let lines = same-lines front (entry_lines other) plain (plain-entry-lines other one) same in
    one-entry entry other more lawful one (split ∙ ap (λ (ls : Lines). ls ++ more) lines)

-- the whole lines of a text, and the piece behind them, where the text is a tear
pub record Torn (whole piece : List ℕ) (number : ℕ) (before : List ℕ) : Type 0 where
  pub front : IsFrontOfEntry whole
  pub due : (e : Entry) → IsEntryOf whole e → (lost : List ℕ) × (commit_line number (check_of before whole) ≡ piece ++ lost)

pub torn : (text whole piece : List ℕ) (number : ℕ) (before : List ℕ) → number < 2 ^ 64 → text ≡ whole ++ piece
    → (lines : List (List ℕ)) × (list_all is_one_line lines ≡ true) × (whole ≡ lines_text lines) → IsTear text number before → Torn whole piece number before
torn text whole piece number before small split lined t =
    let all : Lines = entry_lines t.entry in
    let body : List ℕ = text_of all in
    let words : List ℕ = commit_words number (check_of before body) in
    let same : lines_text lined.0 ++ (piece ++ t.lost) ≡ lines_text (map line_of all) ++ (words ++ codes "\n") =
    sym (append_assoc (lines_text lined.0) piece t.lost) ∙ ap (λ (u : List ℕ). (u ++ piece) ++ t.lost) (sym lined.2) ∙ ap (λ (u : List ℕ). u ++ t.lost) (sym split) ∙ sym t.front
    ∙ ap (λ (u : List ℕ). u ++ (words ++ codes "\n")) (joined all) in
    let first = first-lines lined.0 (map line_of all) piece t.lost words lined.1 (all-single (map line_of all) (entry-lines t.entry t.lawful)) (commit-single number before body small) t.some same in
    let p = parts all lined.0 first.others first.front in
    let is : whole ≡ text_of p.front = lined.2 ∙ ap lines_text p.some_is ∙ sym (joined p.front) in
    record {
      front = record { entry = t.entry; lawful = t.lawful; lines = p.front; others = p.more; split = p.split; is = is };
      due = λ e of.
          let none : p.more ≡ [] = whole-lines t.entry e p.front p.more t.lawful of.0 p.split (sym is ∙ of.1) in
          let body_is : whole ≡ body = is ∙ ap text_of (sym (p.split ∙ ap (λ (ls : Lines). p.front ++ ls) none ∙ append-nil p.front)) in
          (t.lost, ap (λ (u : List ℕ). commit_line number (check_of before u)) body_is ∙ sym (first.last_is (p.others_is ∙ ap (λ (ls : Lines). map line_of ls) none)));
    }

pub entry-front : (text : List ℕ) (entry : Entry) → IsEntryOf text entry → IsFrontOfEntry text
entry-front text entry is = record { entry = entry; lawful = is.0; lines = entry_lines entry; others = []; split = sym (append-nil (entry_lines entry)); is = is.1 }

pub starts-so : (due piece lost : List ℕ) → due ≡ piece ++ lost → false ≡ starts_with nat_eq due piece → ⊥
starts-so due piece lost is other = other_text piece (take (length piece) due) other (sym (ap (take (length piece)) is ∙ take-append_seam piece lost))
