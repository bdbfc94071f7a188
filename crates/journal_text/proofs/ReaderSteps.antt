-- How a reader of a journal goes on by one line, and where it sticks.
use Rattle.std.proofs.Common.{◌≡◌, ◌<◌, ℕ, ◌+◌, true, List, [], ◌∷◌, ◌++◌, length, codes, Some, None, inl, inr, ap, sym, ◌∙◌, subst, arith, append_assoc, append-nil, length-append}
use Rattle.std.specs.List.{join_with_byte}
use Rattle.plan_table.specs.declared.tracks.Mode.{Mode}
use Rattle.plan_table.specs.declared.tracks.Mode.TheVariants.{Stay, Disappear}
use Rattle.desk_report.specs.LineText.{line_text}
use Rattle.journal_text.specs.Lines.{mode_words, text_of}
use Rattle.session_lines.specs.Requests.{request_of_words}
use Rattle.journal_text.specs.Places.{Steps, LeadsTo}
use Rattle.journal_text.specs.declared.places.Place.{Place}
use Rattle.journal_text.specs.declared.places.Place.TheVariants.{Start, Versioned, Between, Inside, Over}
use Rattle.journal_text.proofs.PlainWords.{are_plain, is_one_line}
use Rattle.journal_text.proofs.PlainLines.{one-line-join, feed-split, line-words_of}
use Rattle.journal_text.proofs.Grammar.{request-watch, request-edit}
use Rattle.journal_text.proofs.RouteLines.{text-append}
use Rattle.journal_text.proofs.Walks.{Walks, walk-more, step-plain}
use Rattle.journal_text.proofs.PlaceLines.{place_lines, step-reached}
use Rattle.journal_text.proofs.BadLines.{Stands, Sticks}

some-mode : (mode : Mode) → 0 < length (mode_words mode)
some-mode Stay = omega arith
some-mode Disappear = omega arith

-- a line that fits has a word
some-words : (place next : Place) (words : List (List ℕ)) → Steps place words next → 0 < length words
some-words Start next words step = elim step [ inl x ↦ rw x.0 (omega arith) | inr x ↦ rw x.0 (omega arith) ]
some-words Versioned next words step = rw step.1 (some-mode step.0)
some-words (Between heading entries) next words step = elim step [ inl x ↦ rw x.line (omega arith) | inr x ↦ rw x.0 (omega arith) ]
some-words (Inside heading entries entry) next (word ∷ words) step = omega arith
some-words (Inside heading entries entry) next [] step = elim step [
  | inl x ↦ let asked = ap request_of_words x.line ∙ request-watch x.thing x.lawful in absurd (cc)
  | inr x ↦ let asked = ap request_of_words x.line ∙ request-edit x.edit x.lawful in absurd (cc)
]
some-words (Over heading entries) next words step = absurd step

some-line : (words : List (List ℕ)) (line : List ℕ) → are_plain words ≡ true → 0 < length words → line_text words ≡ line ++ codes "\n" → 0 < length line
some-line words [] plain some same = let none : 0 ≡ length words = ap length (line-words_of words [] plain same) in absurd (omega arith)
some-line words (byte ∷ line) plain some same = omega arith

-- the reader went on by one line
pub record GoesOn (text : List ℕ) (place next : Place) (line behind : List ℕ) : Type 0 where
  pub stands : Stands text next behind
  pub count : length (place_lines next) ≡ length (place_lines place) + 1
  pub some : 0 < length line

pub goes-on : (text rest line behind : List ℕ) (place next : Place) → Stands text place rest → rest ≡ line ++ 10 ∷ behind → LeadsTo place line (Some next) → GoesOn text place next line behind
goes-on text rest line behind place next stands split leads =
    let words = leads.0 in
    let reached = step-reached place next words stands.lawful leads.2 in
    let plain = step-plain place next words stands.lawful leads.2 in
    let walk : Walks Start (place_lines next) next = subst (λ (l : List (List (List ℕ))). Walks Start l next) (sym reached.lines_are) (walk-more Start place next (place_lines place) words stands.walk leads.2) in
    let after : rest ≡ line_text words ++ behind = split ∙ sym (append_assoc line (codes "\n") behind) ∙ ap (λ (t : List ℕ). t ++ behind) (sym leads.1) in
    let read : text_of (place_lines next) ≡ text_of (place_lines place) ++ line_text words =
    ap text_of reached.lines_are ∙ text-append (place_lines place) (words ∷ []) ∙ ap (λ (t : List ℕ). text_of (place_lines place) ++ t) (append-nil (line_text words)) in
    record {
      stands = record {
        lawful = reached.lawful;
        walk = walk;
        split = stands.split ∙ ap (λ (t : List ℕ). text_of (place_lines place) ++ t) after ∙ sym (append_assoc (text_of (place_lines place)) (line_text words) behind) ∙ ap (λ (t : List ℕ). t ++ behind) (sym read);
      };
      count = ap length reached.lines_are ∙ length-append (place_lines place) (words ∷ []);
      some = some-line words line plain (some-words place next words leads.2) leads.1;
    }

-- the next line does not fit
pub sticks-line : (text rest line behind : List ℕ) (place : Place) → Stands text place rest → rest ≡ line ++ 10 ∷ behind → is_one_line line ≡ true → LeadsTo place line None → Sticks place rest
sticks-line text rest line behind place stands split one none words next tail same step =
    let plain = step-plain place next words stands.lawful step in
    let first = feed-split (join_with_byte 32 words) line tail behind (one-line-join words plain) one (sym (append_assoc (join_with_byte 32 words) (codes "\n") tail) ∙ sym same ∙ split) in
    none words next (ap (λ (t : List ℕ). t ++ codes "\n") first.line) step

-- there is no next line with a line feed
pub sticks-end : (rest : List ℕ) (place : Place) → ((line behind : List ℕ) → rest ≡ line ++ 10 ∷ behind → ⊥) → Sticks place rest
sticks-end rest place none words next tail same step = none (join_with_byte 32 words) tail (same ∙ append_assoc (join_with_byte 32 words) (codes "\n") tail)

-- a text with a line feed is not empty
pub not-empty : (rest line behind : List ℕ) → rest ≡ line ++ 10 ∷ behind → rest ≡ [] → ⊥
not-empty rest line behind split none = omega (arith, ap length (sym split ∙ none), length-append line (10 ∷ behind))
