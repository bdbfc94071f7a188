-- The text of a line that ends with a list.
use Rattle.std.proofs.Common.{◌≡◌, ℕ, List, [], ◌∷◌, ◌++◌, ap, sym, ◌∙◌, append_assoc}
use Rattle.std.specs.Prelude.{map, codes}
use Rattle.std.specs.List.{flat_map, join_with_byte}
use Rattle.desk_report.specs.LineText.{line_text}
use Rattle.desk_report.proofs.Lines.{join-words}

-- the words with a space between each two, and behind them the items, each after a space
join-listing : {X : Type 0} (f : X → List ℕ) (first : List ℕ) (words : List (List ℕ)) (xs : List X)
    → join_with_byte 32 (first ∷ (words ++ map f xs)) ≡ join_with_byte 32 (first ∷ words) ++ flat_map (λ x. 32 ∷ f x) xs
join-listing f first [] xs = join-words f first xs
join-listing f first (word ∷ words) xs =
    ap (λ t. first ++ (32 ∷ t)) (join-listing f word words xs) ∙ sym (append_assoc first (32 ∷ join_with_byte 32 (word ∷ words)) (flat_map (λ x. 32 ∷ f x) xs))

pub line-listing : {X : Type 0} (f : X → List ℕ) (first : List ℕ) (words : List (List ℕ)) (xs : List X)
    → line_text (first ∷ (words ++ map f xs)) ≡ (join_with_byte 32 (first ∷ words) ++ flat_map (λ x. 32 ∷ f x) xs) ++ codes "\n"
line-listing f first words xs = ap (λ t. t ++ codes "\n") (join-listing f first words xs)
