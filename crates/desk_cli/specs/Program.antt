-- The program's parser: its words, and the names of what each has (this project's choice).
use Rattle.std.specs.Prelude.{◌≡◌, ℕ, Bool, List, [], ◌∷◌, map, codes, true, false}
use Rattle.clap.specs.Simple.{App, app_of, is_simple, with_subcommand}
use Rattle.clap.specs.declared.builder.command.Command.{Command}
use Rattle.desk_cli.specs.Grammar.{app_for}
use Rattle.desk_cli.specs.declared.commands.Word.{Word}

-- an app, with those words
abbrev pub with_words : App → List Word → App
with_words app [] = app
with_words app (word ∷ later) = with_words (with_subcommand app (app_for word).top) later

abbrev pub program_of : Word → List Word → App
program_of top words = with_words (app_for top) words

-- the parser of a program with those words
pub record IsParserOf (top : Word) (words : List Word) (command : Command) : Type 0 where
  pub is : app_of command ≡ program_of top words

-- the name of a word, and those of its arguments, with whether each is needed
abbrev pub label_of : Word → List ℕ × List (List ℕ × Bool)
label_of word = (word.name.now, map (λ argument. (argument.name.now, argument.is_needed)) word.arguments.now)

abbrev may : List ℕ → List ℕ × Bool
may name = (name, false)

abbrev needs : List ℕ → List ℕ × Bool
needs name = (name, true)

abbrev pub program_label : List ℕ × List (List ℕ × Bool)
program_label = (codes "mapf_desk", may (codes "version") ∷ may (codes "verbose") ∷ [])

abbrev pub word_labels : List (List ℕ × List (List ℕ × Bool))
word_labels = (
  codes "serve",
  may (codes "map") ∷ may (codes "scen") ∷ may (codes "agents") ∷ may (codes "limit") ∷ may (codes "mode") ∷ may (codes "journal") ∷
      may (codes "save") ∷ may (codes "log") ∷ may (codes "sync") ∷ may (codes "lines") ∷ may (codes "history") ∷ may (codes "verbose") ∷ [],
)
    ∷ (
      codes "audit",
      needs (codes "map") ∷ may (codes "scen") ∷ may (codes "agents") ∷ may (codes "mode") ∷ may (codes "journal") ∷
          may (codes "workers") ∷ may (codes "verbose") ∷ [],
    )
    ∷ (
      codes "drill",
      needs (codes "map") ∷ may (codes "scen") ∷ may (codes "agents") ∷ may (codes "mode") ∷ may (codes "lines") ∷ may (codes "history") ∷ may (codes "workers") ∷
          may (codes "verbose") ∷ needs (codes "script") ∷ [],
    )
    ∷ (
      codes "host",
      needs (codes "map") ∷ may (codes "scen") ∷ may (codes "agents") ∷ may (codes "limit") ∷ may (codes "mode") ∷ may (codes "journal") ∷
          may (codes "save") ∷ may (codes "log") ∷ may (codes "sync") ∷ may (codes "lines") ∷ may (codes "history") ∷ may (codes "wait") ∷
          may (codes "workers") ∷ may (codes "verbose") ∷ needs (codes "name") ∷ [],
    )
    ∷ (
      codes "check",
      needs (codes "map") ∷ needs (codes "paths") ∷ may (codes "scen") ∷ may (codes "agents") ∷ may (codes "mode") ∷ may (codes "form") ∷
          may (codes "flip") ∷ may (codes "solves") ∷ may (codes "only") ∷ may (codes "own-cells") ∷ may (codes "json") ∷
          may (codes "workers") ∷ may (codes "quiet") ∷ may (codes "verbose") ∷ [],
    )
    ∷ (
      codes "draw",
      needs (codes "map") ∷ may (codes "scen") ∷ may (codes "agents") ∷ may (codes "mode") ∷ may (codes "journal") ∷ may (codes "paths") ∷
          may (codes "at") ∷ may (codes "agents-shown") ∷ may (codes "solves") ∷ may (codes "verbose") ∷ [],
    )
    ∷ (
      codes "page",
      needs (codes "map") ∷ may (codes "scen") ∷ may (codes "agents") ∷ may (codes "mode") ∷ may (codes "journal") ∷ may (codes "log") ∷
          may (codes "paths") ∷ may (codes "solves") ∷ may (codes "title") ∷ may (codes "verbose") ∷ [],
    )
    ∷ []

-- the program's parser, with these words; `clap`'s contracts say all that it finds in a command line
pub record IsProgram (app : App) : Type 0 where
  pub top : Word
  pub words : List Word
  pub is : app ≡ program_of top words
  pub named : label_of top ≡ program_label
  pub words_named : map label_of words ≡ word_labels
  pub said : is_simple (program_of top words) ≡ true
