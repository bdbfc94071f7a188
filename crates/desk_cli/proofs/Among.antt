-- Laws of words among others.
use Rattle.std.proofs.Common.{◌≡◌, ℕ, List, [], ◌∷◌, refl, ap}
use Rattle.std.specs.Prelude.{◌||◌, bytes_eq}
use Rattle.std.specs.List.{list_any}
use Rattle.std.specs.Borrow.{Bor}
use Rattle.session_lines.specs.Kinds.{is_one_of}
use Rattle.desk_cli.specs.Values.{texts_in}

-- a text is among the texts of references where one of these refers to it
pub among_references : (text : List ℕ) (words : List (Bor (List ℕ))) → list_any (λ (word : Bor (List ℕ)). bytes_eq word.now text) words ≡ is_one_of text (texts_in words)
among_references text [] = refl
among_references text (word ∷ words) = ap (λ b. bytes_eq word.now text || b) (among_references text words)
