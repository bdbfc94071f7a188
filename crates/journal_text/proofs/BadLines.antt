-- What a reader knows of a text, from the place where it is.
use Rattle.std.proofs.Common.{◌≡◌, ◌<◌, ◌≤◌, ℕ, ◌+◌, true, List, [], ◌∷◌, ◌++◌, length, codes, refl, ap, sym, ◌∙◌, subst, inl, inr, arith, append_assoc, append-nil, length-append}
use Rattle.std.proofs.lemmas.Bool.{cases_lt, and_parts}
use Rattle.std.proofs.lemmas.List.Folds.{list_all-append}
use Rattle.std.specs.List.{join_with_byte}
use Rattle.desk_report.specs.LineText.{line_text}
use Rattle.plan_table.specs.declared.tracks.Mode.{Mode}
use Rattle.desk_commits.specs.Entries.{Entry}
use Rattle.desk_commits.specs.Replays.{Log}
use Rattle.journal_text.specs.Ranges.{IsJournal}
use Rattle.journal_text.specs.Lines.{journal_lines, text_of}
use Rattle.journal_text.specs.Reading.{IsTextOf, mode_of, Begins, IsFaultyLine}
use Rattle.journal_text.specs.Places.{Steps, IsPlace}
use Rattle.journal_text.specs.declared.places.Heading.{Heading}
use Rattle.journal_text.specs.declared.places.Heading.TheVariants.{First, Second}
use Rattle.journal_text.specs.declared.places.Place.{Place}
use Rattle.journal_text.specs.declared.places.Place.TheVariants.{Start, Over}
use Rattle.journal_text.proofs.PlainWords.{are_plain}
use Rattle.journal_text.proofs.PlainLines.{are_lines, text-split}
use Rattle.journal_text.proofs.Walks.{Walks, walk-split, walk-same}
use Rattle.journal_text.proofs.PlaceLines.{place_lines}
use Rattle.journal_text.proofs.WholeWalks.{walk-journal, walk-reached, walk-plain, can-end}

-- the lines that led to the place stand at the head of the text, and this is the rest
pub record Stands (text : List ℕ) (place : Place) (rest : List ℕ) : Type 0 where
  pub lawful : IsPlace place
  pub walk : Walks Start (place_lines place) place
  pub split : text ≡ text_of (place_lines place) ++ rest

-- no line that fits there comes next
abbrev pub Sticks : Place → List ℕ → Type 0
Sticks place rest = (words : List (List ℕ)) (next : Place) (tail : List ℕ) → rest ≡ line_text words ++ tail → Steps place words next → ⊥

plain-lines : (heading : Heading) (entries : List Entry) → IsJournal (record { mode = mode_of heading; entries = entries }) → are_lines (journal_lines heading entries) ≡ true
plain-lines heading entries lawful = walk-plain Start (Over heading entries) (journal_lines heading entries) tt (walk-journal heading entries lawful.few lawful.entries)

pub nothing : (lines : List (List (List ℕ))) (rest : List ℕ) → [] ≡ text_of lines ++ rest → (lines ≡ []) × (rest ≡ [])
nothing [] rest same = (refl, sym same)
nothing (words ∷ lines) rest same =
    absurd (omega (arith, ap length same, length-append (text_of (words ∷ lines)) rest, length-append (line_text words) (text_of lines), length-append (join_with_byte 32 words) (codes "\n")))

begins : (text rest : List ℕ) (place : Place) → Stands text place rest → Begins text (length (place_lines place))
begins text rest place stands =
    let ends = can-end place stands.lawful in
    let over = walk-reached place (Over ends.heading ends.entries) ends.lines stands.lawful ends.walk in
    record {
      heading = ends.heading;
      entries = ends.entries;
      lawful = record { few = over.lawful.0; entries = over.lawful.1 };
      lines = place_lines place;
      others = ends.lines;
      split = over.lines_are;
      count = refl;
      rest = rest;
      begins = stands.split;
    }

-- a longer front of a journal's lines gives a line that fits
pub longer : (rest tail : List ℕ) (place : Place) (heading : Heading) (entries : List Entry) (more others : List (List (List ℕ))) → Sticks place rest → Walks Start (place_lines place) place → Walks Start ((place_lines place ++ more) ++ others) (Over heading entries) → rest ≡ text_of more ++ tail → 0 < length more → ⊥
longer rest tail place heading entries [] others stuck walk whole same some = omega arith
longer rest tail place heading entries (words ∷ more) others stuck walk whole same some =
    let all : Walks Start (place_lines place ++ (words ∷ (more ++ others))) (Over heading entries) =
    subst (λ (l : List (List (List ℕ))). Walks Start l (Over heading entries)) (append_assoc (place_lines place) (words ∷ more) others) whole in
    let parts = walk-split Start (Over heading entries) (place_lines place) (words ∷ (more ++ others)) all in
    let here : parts.0 ≡ place = walk-same Start parts.0 place (place_lines place) parts.1 walk in
    let next = parts.2 in
    stuck words next.0 (text_of more ++ tail) (same ∙ append_assoc (line_text words) (text_of more) tail) (subst (λ (p : Place). Steps p words next.0) here next.1)

most : (text rest : List ℕ) (place : Place) → Stands text place rest → Sticks place rest → (n : ℕ) → Begins text n → n ≤ length (place_lines place)
most text rest place stands stuck n front =
    elim (cases_lt (length (place_lines place)) n) [
      | inl less ↦
          let whole = walk-journal front.heading front.entries front.lawful.few front.lawful.entries in
          let plain : are_lines (front.lines ++ front.others) ≡ true = subst (λ (l : List (List (List ℕ))). are_lines l ≡ true) front.split (plain-lines front.heading front.entries front.lawful) in
          let parts = and_parts (are_lines front.lines) (are_lines front.others) (sym (list_all-append are_plain front.lines front.others) ∙ plain) in
          let count : length front.lines ≡ n = front.count in
          let split = text-split (place_lines place) front.lines rest front.rest (walk-plain Start place (place_lines place) tt stands.walk) parts.0 (omega arith) (sym stands.split ∙ front.begins) in
          let walk : Walks Start ((place_lines place ++ split.more) ++ front.others) (Over front.heading front.entries) =
          subst (λ (l : List (List (List ℕ))). Walks Start l (Over front.heading front.entries)) (front.split ∙ ap (λ (l : List (List (List ℕ))). l ++ front.others) split.lines) whole in
          absurd (longer rest front.rest place front.heading front.entries split.more front.others stuck stands.walk walk split.rest
          (omega (arith, ap length split.lines, length-append (place_lines place) split.more)))
      | inr within ↦ within
    ]

-- a whole journal's text is one that the reader is at the end of
whole : (text rest : List ℕ) (place : Place) → Stands text place rest → Sticks place rest → (heading : Heading) (entries : List Entry) → IsJournal (record { mode = mode_of heading; entries = entries }) → text ≡ text_of (journal_lines heading entries) → (place ≡ Over heading entries) × (rest ≡ [])
whole text rest place stands stuck heading entries lawful same =
    let lines = journal_lines heading entries in
    let walk = walk-journal heading entries lawful.few lawful.entries in
    let front : Begins text (length lines) = record { heading = heading; entries = entries; lawful = lawful; lines = lines; others = []; split = sym (append-nil lines); count = refl; rest = []; begins = same ∙ sym (append-nil (text_of lines)) } in
    let few : length lines ≤ length (place_lines place) = most text rest place stands stuck (length lines) front in
    let split = text-split lines (place_lines place) [] rest (plain-lines heading entries lawful) (walk-plain Start place (place_lines place) tt stands.walk) few (append-nil (text_of lines) ∙ sym same ∙ stands.split) in
    let none = nothing split.more rest split.rest in
    let same_lines : place_lines place ≡ lines = split.lines ∙ ap (λ (l : List (List (List ℕ))). lines ++ l) none.0 ∙ append-nil lines in
    (walk-same Start place (Over heading entries) lines (subst (λ (l : List (List (List ℕ))). Walks Start l place) same_lines stands.walk) walk, none.1)

-- where the reader sticks, and is not at the end of a journal, it names the next line
pub bad-line : (text rest : List ℕ) (place : Place) → Stands text place rest → Sticks place rest → ((heading : Heading) (entries : List Entry) → place ≡ Over heading entries → rest ≡ [] → ⊥) → IsFaultyLine text (length (place_lines place) + 1)
bad-line text rest place stands stuck unfinished = record {
  fit = length (place_lines place);
  number = refl;
  begins = begins text rest place stands;
  most = most text rest place stands stuck;
  other = λ log lawful is.
      elim is [
        | inl second ↦ let found = whole text rest place stands stuck (Second log.mode) log.entries (record { few = lawful.few; entries = lawful.entries }) second in unfinished (Second log.mode) log.entries found.0 found.1
        | inr first ↦ let found = whole text rest place stands stuck First log.entries (record { few = lawful.few; entries = lawful.entries }) first.1 in unfinished First log.entries found.0 found.1
      ];
}

the-heading : (log : Log) (text : List ℕ) → IsTextOf log text → (heading : Heading) × (mode_of heading ≡ log.mode) × (text ≡ text_of (journal_lines heading log.entries))
the-heading log text is = elim is [ inl second ↦ (Second log.mode, refl, second) | inr first ↦ (First, sym first.0, first.1) ]

same-lines : (a b : List (List (List ℕ))) → are_lines a ≡ true → are_lines b ≡ true → text_of a ++ [] ≡ text_of b ++ [] → a ≡ b
same-lines a b one other same =
    elim (cases_lt (length a) (length b)) [
      | inl less ↦
          let split = text-split a b [] [] one other (omega arith) same in
          sym (split.lines ∙ ap (λ (l : List (List (List ℕ))). a ++ l) (nothing split.more [] split.rest).0 ∙ append-nil a)
      | inr less ↦
          let split = text-split b a [] [] other one less (sym same) in
          split.lines ∙ ap (λ (l : List (List (List ℕ))). b ++ l) (nothing split.more [] split.rest).0 ∙ append-nil b
    ]

log-same : (a b : Log) → a.mode ≡ b.mode → a.entries ≡ b.entries → a ≡ b
log-same a b mode entries =
    ap (λ (m : Mode). let l : Log = record { mode = m; entries = a.entries } in l) mode
    ∙ ap (λ (es : List Entry). let l : Log = record { mode = b.mode; entries = es } in l) entries

-- a text is that of one journal
pub one-journal : (text : List ℕ) (a b : Log) → IsJournal a → IsJournal b → IsTextOf a text → IsTextOf b text → a ≡ b
one-journal text a b one other first second =
    let x = the-heading a text first in
    let y = the-heading b text second in
    let la = journal_lines x.0 a.entries in
    let lb = journal_lines y.0 b.entries in
    let wa = walk-journal x.0 a.entries one.few one.entries in
    let wb = walk-journal y.0 b.entries other.few other.entries in
    let pa = walk-plain Start (Over x.0 a.entries) la tt wa in
    let pb = walk-plain Start (Over y.0 b.entries) lb tt wb in
    let same : text_of la ++ [] ≡ text_of lb ++ [] = ap (λ (t : List ℕ). t ++ []) (sym x.2 ∙ y.2) in
    let lines : la ≡ lb = same-lines la lb pa pb same in
    let place : Over x.0 a.entries ≡ Over y.0 b.entries = walk-same Start (Over x.0 a.entries) (Over y.0 b.entries) lb (subst (λ (l : List (List (List ℕ))). Walks Start l (Over x.0 a.entries)) lines wa) wb in
    let heading : x.0 ≡ y.0 = cc in
    let entries : a.entries ≡ b.entries = cc in
    log-same a b (sym x.1 ∙ ap mode_of heading ∙ y.1) entries
