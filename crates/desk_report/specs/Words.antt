-- The text of a word (this project's choice).
use Rattle.std.specs.Prelude.{ℕ, List, decimal}
use Rattle.desk_report.specs.LineText.{cell_text, given_text, answer_text}
use Rattle.desk_report.specs.declared.words.Word.{Word}
use Rattle.desk_report.specs.declared.words.Word.TheVariants.{Text, Number, Given, Answer, At}

abbrev pub word_text : Word → List ℕ
word_text (Text letters) = letters.now
word_text (Number number) = decimal number
word_text (Given number) = given_text number
word_text (Answer is_so) = answer_text is_so
word_text (At cell) = cell_text cell
