-- A command to which arguments, or words, were added in turn.
use Rattle.std.specs.List.{AllZip}
use Rattle.std.proofs.Common.{◌≡◌, ◌∙◌, ◌<◌, ◌+◌, ◌||◌, ℕ, Bool, true, false, List, [], ◌∷◌, ◌++◌, length, take, get_or, ap, refl, sym, subst}
use Rattle.std.proofs.lemmas.List.{take_more}
use Rattle.std.proofs.lemmas.Slice.Zip.{all_zipped_more}
use Rattle.clap.specs.Built.{AddsArg, AddsInTurn, AddsSubcommand}
use Rattle.clap.specs.Simple.{App, app_of, with_rule, with_subcommand}
use Rattle.clap.specs.Walk.{rule_of}
use Rattle.clap.specs.declared.builder.arg.Arg.{Arg}
use Rattle.clap.specs.declared.builder.command.Command.{Command}
use Rattle.clap.specs.declared.builder.command.Command.TheViews.{out-Command as fields_of}
use Rattle.desk_cli.specs.Grammar.{app_for, rule_for, with_arguments}
use Rattle.desk_cli.specs.Program.{with_words}
use Rattle.desk_cli.specs.declared.arguments.Argument.{Argument}
use Rattle.desk_cli.specs.declared.commands.Word.{Word}

-- the parser's argument
abbrev pub IsFor : Argument → Arg → Type 0
IsFor argument arg = (rule_of arg ≡ rule_for argument) × (arg.global ≡ false)

pub one_more_argument : (arguments : List Argument) (i : ℕ) (args : List Arg) (arg : Arg) (d : Argument) → i < length arguments → AllZip IsFor (take i arguments) args → IsFor (get_or arguments i d) arg → AllZip IsFor (take (i + 1) arguments) (args ++ arg ∷ [])
one_more_argument arguments i args arg d inside are is =
    subst (λ (t : List Argument). AllZip IsFor t (args ++ arg ∷ [])) (sym (take_more arguments i d inside))
    (all_zipped_more IsFor (take i arguments) args (get_or arguments i d) arg are is)

or_false : (b : Bool) → (b || false) ≡ b
or_false true = refl
or_false false = refl

-- with arguments of the parser added in turn it has their rules, and none that is global
pub with_all_arguments : (arguments : List Argument) (args : List Arg) (old new : Command) → AllZip IsFor arguments args → AddsInTurn AddsArg old args new → (app_of new ≡ with_arguments (app_of old) arguments) × ((fields_of new).has_globals ≡ (fields_of old).has_globals)
with_all_arguments [] [] old new are is = (ap app_of (sym is), ap (λ (c : Command). (fields_of c).has_globals) (sym is))
with_all_arguments [] (arg ∷ args) old new are is = absurd are
with_all_arguments (argument ∷ arguments) [] old new are is = absurd are
with_all_arguments (argument ∷ arguments) (arg ∷ args) old new (first, later) (middle, adds, rest) =
    let last = with_all_arguments arguments args middle new later rest in
    let one : app_of middle ≡ with_rule (app_of old) (rule_for argument) = adds.shape first.1 ∙ ap (with_rule (app_of old)) first.0 in
    let none : (fields_of middle).has_globals ≡ (fields_of old).has_globals =
    adds.globals ∙ ap (λ (b : Bool). (fields_of old).has_globals || b) first.1 ∙ or_false (fields_of old).has_globals in
    (last.0 ∙ ap (λ (app : App). with_arguments app arguments) one, last.1 ∙ none)

-- the word's command
abbrev pub IsOf : Word → Command → Type 0
IsOf word command = (app_of command ≡ app_for word) × ((fields_of command).has_globals ≡ false)

pub one_more_word : (words : List Word) (i : ℕ) (commands : List Command) (command : Command) (d : Word) → i < length words → AllZip IsOf (take i words) commands → IsOf (get_or words i d) command → AllZip IsOf (take (i + 1) words) (commands ++ command ∷ [])
one_more_word words i commands command d inside are is =
    subst (λ (t : List Word). AllZip IsOf t (commands ++ command ∷ [])) (sym (take_more words i d inside))
    (all_zipped_more IsOf (take i words) commands (get_or words i d) command are is)

-- with the commands of words added in turn it has their apps
pub with_all_words : (words : List Word) (commands : List Command) (old new : Command) → AllZip IsOf words commands → AddsInTurn AddsSubcommand old commands new → app_of new ≡ with_words (app_of old) words
with_all_words [] [] old new are is = ap app_of (sym is)
with_all_words [] (command ∷ commands) old new are is = absurd are
with_all_words (word ∷ words) [] old new are is = absurd are
with_all_words (word ∷ words) (command ∷ commands) old new (first, later) (middle, adds, rest) =
    let one : app_of middle ≡ with_subcommand (app_of old) (app_for word).top =
    adds.shape first.1 ∙ ap (λ (app : App). with_subcommand (app_of old) app.top) first.0 in
    with_all_words words commands middle new later rest ∙ ap (λ (app : App). with_words app words) one
