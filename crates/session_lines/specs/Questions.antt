-- The lines that version 2 has beyond those of version 1: questions (this project's choice).
use Rattle.std.specs.Prelude.{ℕ, Option, Some, None, ◌≡◌, Result, Ok, Err, List, [], ◌∷◌, ◌⊎◌, codes, bytes_eq, if◌then◌else◌}
use Rattle.std.specs.Option.{IsSomeAnd, option_map, option_map_or, ok_or}
use Rattle.bench_reader.specs.Words.{words_of}
use Rattle.session_lines.specs.Agents.{agents_named}
use Rattle.session_lines.specs.Requests.{request_of_words, request_of, HasCells}
use Rattle.session_lines.specs.Shapes.{alone, only_agent, only_cell, only_version, time_and_cell, version_and_seconds}
use Rattle.session_lines.specs.declared.questions.QuestionCommand.{QuestionCommand}
use Rattle.session_lines.specs.declared.questions.QuestionCommand.TheVariants.{Report, Changes, Try, Plan, Cell, At, Wait}
use Rattle.session_lines.specs.declared.inquiries.Inquiry.TheVariants as inquiry
use Rattle.session_lines.specs.declared.versions.LinesVersion.{LinesVersion}
use Rattle.session_lines.specs.declared.versions.LinesVersion.TheVariants.{One, Two}
use Rattle.session_lines.specs.declared.requests.LineFault.{LineFault}
use Rattle.session_lines.specs.declared.requests.LineFault.TheVariants as fault
use Rattle.session_lines.specs.declared.requests.Request.{Request}
use Rattle.session_lines.specs.declared.requests.Request.TheVariants as request

-- the questions that the first words of lines ask, in version 2 alone, or with more behind the word than in version 1
abbrev pub question_command_of : List ℕ → Option QuestionCommand
question_command_of word =
    if bytes_eq word (codes "report") then Some Report else
    if bytes_eq word (codes "changes") then Some Changes else
    if bytes_eq word (codes "try") then Some Try else
    if bytes_eq word (codes "plan") then Some Plan else
    if bytes_eq word (codes "cell") then Some Cell else
    if bytes_eq word (codes "at") then Some At else
    if bytes_eq word (codes "wait") then Some Wait else None

-- the whole report, or that of the agents named
abbrev pub report_of : List (List ℕ) → Option Request
report_of [] = Some request.Report
report_of (word ∷ words) = option_map (λ agents. request.Ask (inquiry.Report agents)) (agents_named (word ∷ words))

-- the question of a first word and the words behind it, if they are of its shape and in their ranges
abbrev pub question_of : QuestionCommand → List (List ℕ) → Option Request
question_of Report words = report_of words
question_of Changes words = option_map (λ version. request.Ask (inquiry.Changes version)) (only_version words)
question_of Try words = alone request.Try words
question_of Plan words = option_map (λ agent. request.Ask (inquiry.Plan agent)) (only_agent words)
question_of Cell words = option_map (λ cell. request.Ask (inquiry.Cell cell)) (only_cell words)
question_of At words = option_map (λ named. request.Ask (inquiry.At named.0 named.1)) (time_and_cell words)
question_of Wait words = option_map (λ named. request.Ask (inquiry.Wait named.0 named.1)) (version_and_seconds words)

-- the request of a line's words in version 2: one of its questions, or what the words ask for in version 1
abbrev pub second_request : List (List ℕ) → Result Request LineFault
second_request [] = Ok request.Silent
second_request (word ∷ words) =
    option_map_or (λ command. ok_or (question_of command words) fault.Shape) (question_command_of word) (request_of_words (word ∷ words))

-- the request of a line in version 2, without its line feed
unfoldable pub second_request_of : List ℕ → Result Request LineFault
second_request_of line = second_request (words_of line)

-- the request of a line in that version
abbrev pub request_in : LinesVersion → List ℕ → Result Request LineFault
request_in One line = request_of line
request_in Two line = second_request_of line

-- a list of agents is asked for, in whatever shape it is
abbrev pub AsksForAgents : QuestionCommand → List (List ℕ) → Type 0
AsksForAgents Report (word ∷ words) = Unit {0}
AsksForAgents _ words = ⊥

abbrev pub HasAgents : List (List ℕ) → Type 0
HasAgents [] = ⊥
HasAgents (word ∷ words) = IsSomeAnd (question_command_of word) (λ command. AsksForAgents command words)

-- the line has a list of cells or of agents: no other line grows anything as it is read
abbrev pub HasList : LinesVersion → List (List ℕ) → Type 0
HasList One words = HasCells words
HasList Two words = HasCells words ⊎ HasAgents words

-- the line's request or fault in that version, or want of memory, of a line with a list alone
abbrev pub IsRequestIn : LinesVersion → List ℕ → Result Request LineFault → Type 0
IsRequestIn version line result = (result ≡ request_in version line) ⊎ (HasList version (words_of line) × (result ≡ Err fault.OutOfMemory))
