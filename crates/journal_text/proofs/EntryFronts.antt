-- How far a reader of the first lines of an entry is, and what fits.
use Rattle.std.proofs.Common.{◌≡◌, ◌≢◌, ◌<◌, ◌≤◌, ℕ, ◌+◌, true, false, List, [], ◌∷◌, ◌++◌, length, map, codes, refl, ap, sym, ◌∙◌, subst, inl, inr, arith, append_assoc, append-nil, length-append}
use Rattle.std.proofs.lemmas.Bool.{cases_lt, eqb-false, and_parts, le-leb}
use Rattle.std.proofs.lemmas.Fmt.{decimal_injective}
use Rattle.std.proofs.lemmas.List.{length-map, nil_from_length}
use Rattle.std.proofs.lemmas.List.Elements.{All-nil, All-push, All-head}
use Rattle.std.proofs.lemmas.List.Folds.{list_all-append}
use Rattle.std.specs.List.{All, flat_map}
use Rattle.desk_commits.specs.Entries.{Entry}
use Rattle.journal_text.specs.Ranges.{IsEntry}
use Rattle.journal_text.specs.Lines.{watch_words, edit_words, entry_words, entry_lines, version_words, mode_words, heading_lines, end_words, journal_lines, text_of}
use Rattle.journal_text.specs.Fitting.{IsEntryOf, IsFrontOfEntry, FitsSo, is_in_one}
use Rattle.journal_text.specs.Places.{IsPlace}
use Rattle.journal_text.specs.declared.fitting.Fit.{Fit}
use Rattle.journal_text.specs.declared.fitting.Fit.TheVariants.{Whole, Begun, Bad}
use Rattle.journal_text.specs.declared.places.Heading.{Heading}
use Rattle.journal_text.specs.declared.places.Heading.TheVariants.{First, Second}
use Rattle.journal_text.specs.declared.places.Place.{Place}
use Rattle.journal_text.specs.declared.places.Place.TheVariants.{Start, Versioned, Between, Inside, Over}
use Rattle.journal_text.proofs.PlainWords.{are_plain}
use Rattle.journal_text.proofs.PlainLines.{are_lines, text-split}
use Rattle.journal_text.proofs.Walks.{Walks, at, word_at, walk-same}
use Rattle.journal_text.proofs.PlaceLines.{place_lines, begun_lines}
use Rattle.journal_text.proofs.WholeWalks.{walk-journal, walk-plain, walk-entry}
use Rattle.journal_text.proofs.BadLines.{Stands, Sticks, longer, nothing}
use Rattle.journal_text.proofs.Fitted.{behind_first, fitted-one}

abbrev Lines : Type 0
Lines = List (List (List ℕ))

abbrev first_line : Lines
first_line = version_words (codes "1") ∷ []

abbrev head_of : Lines → List (List ℕ)
head_of [] = []
head_of (words ∷ lines) = words

abbrev tail_of : Lines → Lines
tail_of [] = []
tail_of (words ∷ lines) = lines

lines-count : (entry : Entry) → length (entry_lines entry) ≡ 1 + (length entry.watch + length entry.edits)
lines-count entry =
    omega (arith, length-append (map watch_words entry.watch) (map edit_words entry.edits), length-map entry.watch watch_words, length-map entry.edits edit_words)

-- no entry's lines begin with all those of an entry and have more
pub one-entry : (entry first : Entry) (more : Lines) → IsEntry entry → IsEntry first → entry_lines entry ≡ entry_lines first ++ more → more ≡ []
one-entry entry first more lawful one same =
    let a = lawful.numbers in
    let b = one.numbers in
    let watches : length entry.watch ≡ length first.watch =
    decimal_injective (length entry.watch) (length first.watch) (omega (arith, a.watches_most)) (omega (arith, b.watches_most)) (ap (λ (ls : Lines). word_at (head_of ls) 3) same) in
    let edits : length entry.edits ≡ length first.edits =
    decimal_injective (length entry.edits) (length first.edits) (omega (arith, a.edits_most)) (omega (arith, b.edits_most)) (ap (λ (ls : Lines). word_at (head_of ls) 4) same) in
    nil_from_length more (omega (arith, watches, edits, ap length same, length-append (entry_lines first) more, lines-count entry, lines-count first))

-- the lines of a journal with that entry alone
rest-lines : (f : Lines) (others : Lines) (entry : Entry) → entry_lines entry ≡ f ++ others → journal_lines First (entry ∷ []) ≡ (version_words (codes "1") ∷ f) ++ (others ++ end_words 1 ∷ [])
rest-lines f others entry split =
    ap (λ (ls : Lines). version_words (codes "1") ∷ (ls ++ end_words 1 ∷ [])) (append-nil (entry_lines entry) ∙ split)
    ∙ ap (λ (ls : Lines). version_words (codes "1") ∷ ls) (append_assoc f others (end_words 1 ∷ []))

-- the reader has read these of the lines, and the text of the others is to come
pub record Reads (place : Place) (rest : List ℕ) (lines : Lines) : Type 0 where
  pub more : Lines
  pub lines_are : lines ≡ place_lines place ++ more
  pub rest_is : rest ≡ text_of more ++ []

module _ (text rest : List ℕ) (place : Place) (stands : Stands (behind_first text) place rest) (f : IsFrontOfEntry text) where
  abbrev all_lines : Lines
  all_lines = version_words (codes "1") ∷ f.lines

  abbrev others : Lines
  others = f.others ++ end_words 1 ∷ []

  one-more : All IsEntry (f.entry ∷ [])
  one-more = All-push IsEntry [] f.entry (All-nil IsEntry) f.lawful

  walk-all : Walks Start (all_lines ++ others) (Over First (f.entry ∷ []))
  walk-all =
      subst (λ (ls : Lines). Walks Start ls (Over First (f.entry ∷ []))) (rest-lines f.lines f.others f.entry f.split)
      (walk-journal First (f.entry ∷ []) (omega arith) one-more)

  plain-all : are_lines all_lines ≡ true
  plain-all =
      (and_parts (are_lines all_lines) (are_lines others)
      (sym (list_all-append are_plain all_lines others) ∙ walk-plain Start (Over First (f.entry ∷ [])) (all_lines ++ others) tt walk-all)).0

  split-all : text_of (place_lines place) ++ rest ≡ text_of all_lines ++ []
  split-all = sym stands.split ∙ ap behind_first (f.is ∙ sym (append-nil (text_of f.lines)))

  pub front-reads : Reads place rest all_lines
  front-reads =
      let plain = walk-plain Start place (place_lines place) tt stands.walk in
      elim (cases_lt (length all_lines) (length (place_lines place))) [
        | inl less ↦
            let split = text-split all_lines (place_lines place) [] rest plain-all plain (omega arith) (sym split-all) in
            let none = nothing split.more rest split.rest in
            record {
              more = [];
              lines_are = sym (split.lines ∙ ap (λ (ls : Lines). all_lines ++ ls) none.0 ∙ append-nil all_lines) ∙ sym (append-nil (place_lines place));
              rest_is = none.1;
            }
        | inr within ↦
            let split = text-split (place_lines place) all_lines rest [] plain plain-all within split-all in
            record { more = split.more; lines_are = split.lines; rest_is = split.rest }
      ]

  pub front-stuck : Sticks place rest → rest ≢ [] → ⊥
  front-stuck stuck some =
      let reads = front-reads in
      elim (cases_lt 0 (length reads.more)) [
        | inl more ↦
            longer rest [] place First (f.entry ∷ []) reads.more others stuck stands.walk
            (subst (λ (ls : Lines). Walks Start (ls ++ others) (Over First (f.entry ∷ []))) reads.lines_are walk-all) reads.rest_is more
        | inr none ↦ some (reads.rest_is ∙ ap (λ (ls : Lines). text_of ls ++ []) (nil_from_length reads.more (omega (arith, none))))
      ]

first-entry : (f : Lines) (others next more : Lines) (entry first : Entry) → IsEntry entry → IsEntry first → entry_lines entry ≡ f ++ others → f ≡ (entry_lines first ++ next) ++ more
    → length next + length more ≡ 0
first-entry f others next more entry first lawful one split same =
    let all : entry_lines entry ≡ entry_lines first ++ ((next ++ more) ++ others) =
    split ∙ ap (λ (ls : Lines). ls ++ others) (same ∙ append_assoc (entry_lines first) next more) ∙ append_assoc (entry_lines first) (next ++ more) others in
    let none = one-entry entry first ((next ++ more) ++ others) lawful one all in
    omega (arith, ap length none, length-append (next ++ more) others, length-append next more)

other-version : (words : List (List ℕ)) (one more : Lines) → version_words (codes "1") ∷ one ≡ version_words (codes "2") ∷ more → ⊥
other-version words one more same = eqb-false 49 50 refl (ap (λ (ls : Lines). at (word_at (head_of ls) 1) 0) same)

-- behind an entry that is read there is nothing
pub all-read : (heading : Heading) (entries : List Entry) (f others more : Lines) (entry : Entry) → IsEntry entry → All IsEntry entries → 0 < length entries → entry_lines entry ≡ f ++ others
    → version_words (codes "1") ∷ f ≡ place_lines (Between heading entries) ++ more → more ≡ []
all-read First [] f others more entry lawful all some split same = absurd (omega (arith, some))
all-read First (first ∷ entries) f others more entry lawful all some split same =
    let none = first-entry f others (flat_map entry_lines entries) more entry first lawful (All-head IsEntry first entries all) split (ap tail_of same) in
    nil_from_length more (omega (arith, none))
all-read (Second mode) entries f others more entry lawful all some split same = absurd (other-version [] f (mode_words mode ∷ (flat_map entry_lines entries ++ more)) same)

-- lines of one entry lead to a place in one
in-one : (place : Place) (f others : Lines) (entry : Entry) → IsPlace place → IsEntry entry → entry_lines entry ≡ f ++ others → version_words (codes "1") ∷ f ≡ place_lines place → is_in_one place ≡ true
in-one Start f others entry place lawful split same = absurd (let len = ap length same in omega (arith, len))
in-one Versioned f others entry place lawful split same = absurd (other-version [] f [] same)
in-one (Between heading []) f others entry place lawful split same = refl
in-one (Between heading (one ∷ [])) f others entry place lawful split same = refl
in-one (Between First (one ∷ next ∷ entries)) f others entry place lawful split same =
    let none = first-entry f others (flat_map entry_lines (next ∷ entries)) [] entry one lawful (All-head IsEntry one (next ∷ entries) place.1) split
    (ap tail_of same ∙ sym (append-nil (flat_map entry_lines (one ∷ next ∷ entries)))) in
    absurd (omega (arith, none, length-append (entry_lines next) (flat_map entry_lines entries), lines-count next))
in-one (Between (Second mode) (one ∷ next ∷ entries)) f others entry place lawful split same =
    absurd (other-version [] f (mode_words mode ∷ flat_map entry_lines (one ∷ next ∷ entries)) same)
in-one (Inside heading entries begun) f others entry place lawful split same = refl
in-one (Over First []) f others entry place lawful split same =
    let words : entry_lines entry ≡ end_words 0 ∷ others = split ∙ ap (λ (ls : Lines). tail_of ls ++ others) same in
    absurd (eqb-false 116 100 refl (ap (λ (ls : Lines). at (word_at (head_of ls) 0) 2) words))
in-one (Over First (one ∷ entries)) f others entry place lawful split same =
    let none = first-entry f others (flat_map entry_lines entries) (end_words (length (one ∷ entries)) ∷ []) entry one lawful (All-head IsEntry one entries place.1) split (ap tail_of same) in
    absurd (omega (arith, none))
in-one (Over (Second mode) entries) f others entry place lawful split same =
    absurd (other-version [] f (mode_words mode ∷ (flat_map entry_lines entries ++ end_words (length entries) ∷ [])) same)

read-all : (text rest : List ℕ) (place : Place) → Stands (behind_first text) place rest → rest ≡ [] → (f : IsFrontOfEntry text) → version_words (codes "1") ∷ f.lines ≡ place_lines place
read-all text rest place stands none f =
    let reads = front-reads text rest place stands f in
    let done = nothing reads.more [] (sym none ∙ reads.rest_is) in
    reads.lines_are ∙ ap (λ (ls : Lines). place_lines place ++ ls) done.0 ∙ append-nil (place_lines place)

not-begun : (text rest : List ℕ) (place : Place) (entry : Entry) → Stands (behind_first text) place rest → rest ≡ [] → IsEntryOf text entry → place ≡ Between First (entry ∷ [])
not-begun text rest place entry stands none is =
    let f : IsFrontOfEntry text = record { entry = entry; lawful = is.0; lines = entry_lines entry; others = []; split = sym (append-nil (entry_lines entry)); is = is.1 } in
    let lines = read-all text rest place stands none f in
    let walk : Walks Start (first_line ++ entry_lines entry) (Between First (entry ∷ [])) = (Between First [], inl (refl, refl), walk-entry First [] entry (omega arith) is.0) in
    walk-same Start place (Between First (entry ∷ [])) (first_line ++ entry_lines entry) (subst (λ (ls : Lines). Walks Start ls place) (sym lines) stands.walk) walk

pub fits-so : (text rest : List ℕ) (place : Place) (fit : Fit) → Stands (behind_first text) place rest → rest ≡ []
    → (fit ≡ Whole → (heading : Heading) × (entries : List Entry) × (place ≡ Between heading entries) × (length entries ≡ 1))
    → (fit ≡ Begun → (heading : Heading) (entries : List Entry) → place ≡ Between heading entries → length entries ≢ 1)
    → ((line : ℕ) → fit ≡ Bad line → is_in_one place ≡ false) → FitsSo text fit
fits-so text rest place Whole stands none whole begun bad =
    let one = whole refl in
    fitted-one text one.0 one.1 one.3 (rw (sym one.2, sym none) stands)
fits-so text rest place Begun stands none whole begun bad = λ entry is. begun refl First (entry ∷ []) (not-begun text rest place entry stands none is) refl
fits-so text rest place (Bad line) stands none whole begun bad = λ f.
    let one : is_in_one place ≡ true = in-one place f.lines f.others f.entry stands.lawful f.lawful f.split (read-all text rest place stands none f) in
    let other : is_in_one place ≡ false = bad line refl in
    absurd (cc)

pub behind-so : (text rest : List ℕ) (place : Place) (heading : Heading) (entries : List Entry) → Stands (behind_first text) place rest → place ≡ Between heading entries → 0 < length entries → rest ≢ []
    → IsFrontOfEntry text → ⊥
behind-so text rest place heading entries stands is some left f =
    let here : Stands (behind_first text) (Between heading entries) rest = subst (λ (p : Place). Stands (behind_first text) p rest) is stands in
    let reads = front-reads text rest (Between heading entries) here f in
    let none = all-read heading entries f.lines f.others reads.more f.entry f.lawful here.lawful.1 some f.split reads.lines_are in
    left (reads.rest_is ∙ ap (λ (ls : Lines). text_of ls ++ []) none)
