-- The line of a name, some words and some cells, and the text of the lines of a journal, part by part.
use Rattle.std.proofs.Common.{◌≡◌, ◌<◌, ◌+◌, ℕ, Option, List, [], ◌∷◌, ◌++◌, length, map, codes, take, get_or, refl, ap, sym, subst, ◌∙◌, add-one, append_assoc, append-nil}
use Rattle.std.proofs.KnownBytes.{Appends-trans}
use Rattle.std.proofs.Math.Seq.{take-suc}
use Rattle.std.proofs.lemmas.List.Elements.{All-more}
use Rattle.std.specs.Io.KnownBytes.{Appends}
use Rattle.std.proofs.lemmas.Grind.{flat_map-append}
use Rattle.std.specs.List.{All, join_with_byte, flat_map}
use Rattle.desk_report.specs.LineText.{line_text}
use Rattle.desk_report.proofs.Lines.{join-words}
use Rattle.plan_table.specs.declared.tracks.Mode.{Mode}
use Rattle.desk_commits.specs.Entries.{Entry}
use Rattle.journal_text.specs.Lines.{watch_words, edit_words, entry_words, entry_lines, version_words, mode_words, end_words, text_of, journal_text}

route-join : {X Y : Type 0} (f : X → List ℕ) (g : Y → List ℕ) (first : List ℕ) (xs : List X) (ys : List Y) → join_with_byte 32 (first ∷ (map f xs ++ map g ys)) ≡ (first ++ flat_map (λ x. 32 ∷ f x) xs) ++ flat_map (λ y. 32 ∷ g y) ys
route-join f g first [] ys = join-words g first ys ∙ ap (λ (t : List ℕ). t ++ flat_map (λ y. 32 ∷ g y) ys) (sym (append-nil first))
route-join f g first (x ∷ xs) ys =
    ap (λ (t : List ℕ). first ++ (32 ∷ t)) (route-join f g (f x) xs ys ∙ append_assoc (f x) (flat_map (λ x. 32 ∷ f x) xs) (flat_map (λ y. 32 ∷ g y) ys))
    ∙ ap (λ (t : List ℕ). first ++ t) (sym (append_assoc (32 ∷ f x) (flat_map (λ x. 32 ∷ f x) xs) (flat_map (λ y. 32 ∷ g y) ys)))
    ∙ sym (append_assoc first (flat_map (λ x. 32 ∷ f x) (x ∷ xs)) (flat_map (λ y. 32 ∷ g y) ys))

-- the name, the words, the cells and the line feed
pub route-line : {X Y : Type 0} (f : X → List ℕ) (g : Y → List ℕ) (first : List ℕ) (xs : List X) (ys : List Y) → line_text (first ∷ (map f xs ++ map g ys)) ≡ ((first ++ flat_map (λ x. 32 ∷ f x) xs) ++ flat_map (λ y. 32 ∷ g y) ys) ++ codes "\n"
route-line f g first xs ys = ap (λ (t : List ℕ). t ++ codes "\n") (route-join f g first xs ys)

pub text-map : {X : Type 0} (f : X → List (List ℕ)) (xs : List X) → text_of (map f xs) ≡ flat_map (λ x. line_text (f x)) xs
text-map f [] = refl
text-map f (x ∷ xs) = ap (λ (t : List ℕ). line_text (f x) ++ t) (text-map f xs)

-- the text of lines, part by part
pub text-append : (some others : List (List (List ℕ))) → text_of (some ++ others) ≡ text_of some ++ text_of others
text-append some others = flat_map-append line_text some others

-- the lines of each entry
pub text-entries : (entries : List Entry) → text_of (flat_map entry_lines entries) ≡ flat_map (λ entry. text_of (entry_lines entry)) entries
text-entries [] = refl
text-entries (entry ∷ entries) = text-append (entry_lines entry) (flat_map entry_lines entries) ∙ ap (λ (t : List ℕ). text_of (entry_lines entry) ++ t) (text-entries entries)

-- the text of an entry
pub text-entry : (entry : Entry) → text_of (entry_lines entry) ≡ line_text (entry_words entry.planner entry.base (length entry.watch) (length entry.edits)) ++ (flat_map (λ thing. line_text (watch_words thing)) entry.watch ++ flat_map (λ edit. line_text (edit_words edit)) entry.edits)
text-entry entry =
    ap (λ (t : List ℕ). line_text (entry_words entry.planner entry.base (length entry.watch) (length entry.edits)) ++ t)
    (text-append (map watch_words entry.watch) (map edit_words entry.edits)
    ∙ ap (λ (t : List ℕ). t ++ text_of (map edit_words entry.edits)) (text-map watch_words entry.watch)
    ∙ ap (λ (t : List ℕ). flat_map (λ thing. line_text (watch_words thing)) entry.watch ++ t) (text-map edit_words entry.edits))

-- the text of a journal
pub text-journal : (mode : Mode) (entries : List Entry) → journal_text mode entries ≡ (line_text (version_words (codes "2")) ++ line_text (mode_words mode)) ++ (flat_map (λ entry. text_of (entry_lines entry)) entries ++ line_text (end_words (length entries)))
text-journal mode entries =
    sym (append_assoc (line_text (version_words (codes "2"))) (line_text (mode_words mode)) (text_of (flat_map entry_lines entries ++ end_words (length entries) ∷ [])))
    ∙ ap (λ (t : List ℕ). (line_text (version_words (codes "2")) ++ line_text (mode_words mode)) ++ t)
    (text-append (flat_map entry_lines entries) (end_words (length entries) ∷ [])
    ∙ ap (λ (t : List ℕ). t ++ text_of (end_words (length entries) ∷ [])) (text-entries entries)
    ∙ ap (λ (t : List ℕ). flat_map (λ entry. text_of (entry_lines entry)) entries ++ t) (append-nil (line_text (end_words (length entries)))))

-- the items before the one at i, and that one
pub appends-item : {X : Type 0} (f : X → List ℕ) (xs : List X) (a b c : Option (List ℕ)) (i : ℕ) (x : X) → x ≡ get_or xs i x → i < length xs → Appends a b (flat_map f (take i xs)) → Appends b c (f x) → Appends a c (flat_map f (take (i + 1) xs))
appends-item f xs a b c i x e l first second =
    let more : take (i + 1) xs ≡ take i xs ++ x ∷ [] = ap (λ n. take n xs) (add-one i) ∙ take-suc xs i x l ∙ ap (λ y. take i xs ++ y ∷ []) (sym e) in
    let text : flat_map f (take (i + 1) xs) ≡ flat_map f (take i xs) ++ f x = ap (flat_map f) more ∙ flat_map-append f (take i xs) (x ∷ []) ∙ ap (λ (t : List ℕ). flat_map f (take i xs) ++ t) (append-nil (f x)) in
    subst (Appends a c) (sym text) (Appends-trans a b c (flat_map f (take i xs)) (f x) first second)

-- what holds of the items before the one at i, and of that one
pub all-item : {X : Type 0} (P : X → Type 0) (xs : List X) (i : ℕ) (x : X) → x ≡ get_or xs i x → i < length xs → All P (take i xs) → P x → All P (take (i + 1) xs)
all-item P xs i x e l before here = All-more P xs i x l before (subst P e here)
