-- Laws of lines of words, and of texts of a list that stopped at one of its items.
use Rattle.std.proofs.Common.{◌≡◌, ℕ, suc, ◌<◌, List, [], ◌∷◌, ◌++◌, length, get_or, take, drop, ap, sym, subst, ◌∙◌, append-nil, take-append-drop, drop-cons}
use Rattle.std.specs.Prelude.{Option, map, codes}
use Rattle.std.specs.List.{flat_map, join_with_byte}
use Rattle.std.specs.Io.KnownBytes.{Appends}
use Rattle.std.proofs.lemmas.Grind.{flat_map-append}
use Rattle.desk_report.specs.Bytes.{AppendsFront}
use Rattle.desk_report.specs.LineText.{line_text}
use Rattle.desk_report.proofs.Fronts.{front-more, front-after}

-- the items before the one at i, that one, and those after it
pub flat_map-at : {X : Type 0} (f : X → List ℕ) (xs : List X) (i : ℕ) (x : X) → x ≡ get_or xs i x → i < length xs → flat_map f xs ≡ flat_map f (take i xs) ++ (f x ++ flat_map f (drop (suc i) xs))
flat_map-at f xs i x e l =
    ap (flat_map f) (sym (take-append-drop i xs)) ∙ flat_map-append f (take i xs) (drop i xs)
    ∙ ap (λ t. flat_map f (take i xs) ++ flat_map f t) (drop-cons xs i x l ∙ ap (λ y. y ∷ drop (suc i) xs) (sym e))

-- the items before the one at i, and a prefix of that one's text
pub front-item : {X : Type 0} (f : X → List ℕ) (xs : List X) (a b c : Option (List ℕ)) (i : ℕ) (x : X) → x ≡ get_or xs i x → i < length xs
    → Appends a b (flat_map f (take i xs)) → AppendsFront b c (f x) → AppendsFront a c (flat_map f xs)
front-item f xs a b c i x e l d h =
    let parts = front-after a b c (flat_map f (take i xs)) (f x ++ flat_map f (drop (suc i) xs)) d (front-more b c (f x) (flat_map f (drop (suc i) xs)) h) in
    subst (AppendsFront a c) (sym (flat_map-at f xs i x e l)) parts

-- words with a space between each two are the first, and each other after a space
pub join-words : {X : Type 0} (f : X → List ℕ) (first : List ℕ) (xs : List X) → join_with_byte 32 (first ∷ map f xs) ≡ first ++ flat_map (λ x. 32 ∷ f x) xs
join-words f first [] = sym (append-nil first)
join-words f first (x ∷ xs) = ap (λ t. first ++ (32 ∷ t)) (join-words f (f x) xs)

pub line-words : {X : Type 0} (f : X → List ℕ) (first : List ℕ) (xs : List X) → line_text (first ∷ map f xs) ≡ (first ++ flat_map (λ x. 32 ∷ f x) xs) ++ codes "\n"
line-words f first xs = ap (λ t. t ++ codes "\n") (join-words f first xs)
