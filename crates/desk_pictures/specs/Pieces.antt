-- The text of the pieces that a picture is written in (this project's choice).
use Rattle.std.specs.Prelude.{ℕ, ◌*◌, ◌/◌, ◌%◌, List, [], ◌++◌, ◌==◌, if◌then◌else◌, codes, decimal}
use Rattle.std.specs.List.{flat_map}
use Rattle.desk_report.specs.LineText.{given_text}
use Rattle.desk_pictures.specs.declared.pieces.Piece.{Piece}
use Rattle.desk_pictures.specs.declared.pieces.Piece.TheVariants.{Text, Number, Count, Given, Half, Thousandths, Seconds}

-- half of a number
abbrev pub half_text : ℕ → List ℕ
half_text number = decimal (number / 2) ++ (if number % 2 == 0 then [] else codes ".5")

-- a thousandth of a number, to three digits
abbrev pub thousandths_text : ℕ → List ℕ
thousandths_text number = decimal (number / 1000) ++ codes "." ++ decimal (number / 100 % 10) ++ decimal (number / 10 % 10) ++ decimal (number % 10)

-- the seconds at which a time comes: a step takes 0.4
abbrev pub seconds_text : ℕ → List ℕ
seconds_text time = decimal (time * 4 / 10) ++ codes "." ++ decimal (time * 4 % 10)

abbrev pub piece_text : Piece → List ℕ
piece_text (Text letters) = letters.now
piece_text (Number number) = decimal number
piece_text (Count number) = decimal number
piece_text (Given number) = given_text number
piece_text (Half number) = half_text number
piece_text (Thousandths number) = thousandths_text number
piece_text (Seconds time) = seconds_text time

-- texts, one behind the other
abbrev pub joined_texts : List (List ℕ) → List ℕ
joined_texts texts = flat_map (λ text. text) texts
