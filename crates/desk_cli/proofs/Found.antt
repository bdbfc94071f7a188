-- The program's parser, and what is asked for by what it finds.
use Rattle.std.proofs.Common.{◌≡◌, ℕ, true, List, map, Result, Ok, Err, IfOk}
use Rattle.clap.specs.Simple.{App, HasMatchesOf, app_of, is_simple}
use Rattle.clap.specs.declared.builder.command.Command.{Command}
use Rattle.clap.specs.declared.parser.matches.ArgMatches.{ArgMatches}
use Rattle.desk_cli.specs.Asked.{AsksSo, IsAskedBy, IsMatched}
use Rattle.desk_cli.specs.Program.{IsParserOf, IsProgram, label_of, program_label, program_of, word_labels}
use Rattle.desk_cli.specs.declared.commands.Word.{Word}
use Rattle.desk_cli.specs.declared.words.Asked.{Asked}
use Rattle.desk_cli.specs.declared.words.Asked.TheVariants.{For, Refused, NoMemory}

pub found_by : {E : Type 0} (words : List (List ℕ)) (app : App) (read : Result ArgMatches E) → IsProgram app → IfOk read (HasMatchesOf app words) → IfOk read (IsMatched words)
found_by words app (Ok matches) is has = (app, is, has)
found_by words app (Err error) is has = tt

pub asked_by : (words : List (List ℕ)) (matches : ArgMatches) (asked : Asked) → IsMatched words matches → AsksSo matches asked → IsAskedBy words asked
asked_by words matches (For so verbose) is asks = (matches, is, asks.0, asks.1)
asked_by words matches (Refused error) is asks = tt
asked_by words matches NoMemory is asks = tt

pub made_program : {E : Type 0} (top : Word) (words : List Word) (made : Result Command E) → IfOk made (IsParserOf top words) → label_of top ≡ program_label → map label_of words ≡ word_labels → is_simple (program_of top words) ≡ true → IfOk made (λ command. IsProgram (app_of command))
made_program top words (Ok command) made named all said = record { top = top; words = words; is = made.is; named = named; words_named = all; said = said }
made_program top words (Err error) made named all said = tt
