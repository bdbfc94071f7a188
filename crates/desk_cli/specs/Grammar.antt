-- What the parser has of a word and its options (this project's choice, in the words of `clap`'s contracts).
use Rattle.std.specs.Prelude.{ℕ, List, [], ◌∷◌, Option, Some, map, pos}
use Rattle.clap.specs.Lexer.{usize_max}
use Rattle.clap.specs.Simple.{App, new_app, new_rule, with_rule}
use Rattle.clap.specs.Walk.{Rule, is_empty}
use Rattle.clap.specs.declared.builder.action.ArgAction.TheVariants.{SetTrue}
use Rattle.clap.specs.declared.builder.range.ValueRange.{ValueRange}
use Rattle.clap.specs.declared.builder.value_parser.ValueParser.{ValueParser}
use Rattle.clap.specs.declared.builder.value_parser.ValueParser.TheVariants.{String, Signed, Names}
use Rattle.desk_cli.specs.declared.arguments.Argument.{Argument}
use Rattle.desk_cli.specs.declared.arguments.Value.{Value}
use Rattle.desk_cli.specs.declared.arguments.Value.TheVariants.{Nothing, Text, Number, OneOf, SomeOf, Texts, Listed}
use Rattle.desk_cli.specs.declared.commands.Word.{Word}

abbrev pub from_one : ℕ → Option ValueRange
from_one most = Some (record { start_inclusive = 1; end_inclusive = most })

abbrev pub flag_rule : Argument → Rule
flag_rule argument = record (new_rule argument.name.now) { long = Some argument.name.now; short = argument.short; action = Some SetTrue }

-- an option with so many values at most, each of which passes that parser
abbrev pub option_rule : Argument → ValueParser → ℕ → Rule
option_rule argument parser most = record (new_rule argument.name.now) {
  long = Some argument.name.now;
  range = from_one most;
  value_names = 1;
  defaults = map (λ text. text.now) argument.usual.now;
  parser = Some parser;
  required = argument.is_needed;
  is_free = is_empty argument.excluded.now;
}

abbrev pub listed_rule : Argument → Rule
listed_rule argument = record (new_rule argument.name.now) { range = from_one usize_max; value_names = 1; required = argument.is_needed }

abbrev pub rule_by : Value → Argument → Rule
rule_by Nothing argument = flag_rule argument
rule_by (Text name) argument = option_rule argument String 1
rule_by (Number name least greatest) argument = option_rule argument (Signed (pos least) (pos greatest)) 1
rule_by (OneOf name texts) argument = option_rule argument (Names texts) 1
rule_by (SomeOf name texts) argument = option_rule argument (Names texts) usize_max
rule_by (Texts name) argument = option_rule argument String usize_max
rule_by (Listed name) argument = listed_rule argument

abbrev pub rule_for : Argument → Rule
rule_for argument = rule_by argument.value argument

abbrev pub with_arguments : App → List Argument → App
with_arguments app [] = app
with_arguments app (argument ∷ later) = with_arguments (with_rule app (rule_for argument)) later

-- a word alone, with its arguments
abbrev pub app_for : Word → App
app_for word = with_arguments (new_app word.name.now) word.arguments.now
