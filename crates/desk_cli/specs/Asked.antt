-- What the words ask for, by what the parser found in them (this project's choice).
use Rattle.std.specs.Prelude.{◌≡◌, ◌≢◌, ◌⊎◌, ℕ, Bool, List, [], Option, Some, None, false, true, codes, option_map, unwrap_or}
use Rattle.std.specs.Option.{option_copied, option_or}
use Rattle.session_lines.specs.Kinds.{named_kinds}
use Rattle.session_lines.specs.declared.versions.LinesVersion.{LinesVersion}
use Rattle.session_lines.specs.declared.versions.LinesVersion.TheVariants.{One, Two}
use Rattle.path_files.specs.declared.forms.Form.{Form}
use Rattle.clap.specs.Matches.{first_value, found_of, has_subcommand, matched_of, one_text, raw_values, subcommand_name_of}
use Rattle.clap.specs.Simple.{App, HasMatchesOf, subcommand_rows_of}
use Rattle.clap.specs.Walk.{rows_of}
use Rattle.clap.specs.declared.parser.matches.ArgMatches.{ArgMatches}
use Rattle.clap.specs.declared.parser.matches.Found.{Found}
use Rattle.desk_cli.specs.Program.{IsProgram}
use Rattle.desk_cli.specs.Values.{
  file_named,
  files_behind,
  number_given,
  range_of,
  texts_given,
  texts_in,
  is_sync_named,
  mode_named,
  lines_named,
  form_flipped,
  form_named,
  kinds_named,
}
use Rattle.desk_cli.specs.declared.words.ServeWords.{ServeWords}
use Rattle.desk_cli.specs.declared.words.AuditWords.{AuditWords}
use Rattle.desk_cli.specs.declared.words.DrillWords.{DrillWords}
use Rattle.desk_cli.specs.declared.words.HostWords.{HostWords}
use Rattle.desk_cli.specs.declared.words.CheckWords.{CheckWords}
use Rattle.desk_cli.specs.declared.words.DrawWords.{DrawWords}
use Rattle.desk_cli.specs.declared.words.PageWords.{PageWords}
use Rattle.desk_cli.specs.declared.words.Words.{Words}
use Rattle.desk_cli.specs.declared.words.Asked.{Asked}
use Rattle.desk_cli.specs.declared.words.Asked.TheVariants.{For, Refused, NoMemory}
use Rattle.plan_table.specs.declared.tracks.Mode.TheVariants.{Stay}
use Rattle.desk_cli.specs.declared.words.Words.TheVariants.{Version, Serve, Audit, Drill, Host, Check, Draw, Page}

-- whether a flag is given
pub record IsFlag (found : Found) (name : List ℕ) (flag : Bool) : Type 0 where
  pub given : one_text found name ≡ Some (codes "true") → flag ≡ true
  pub left_out : one_text found name ≡ Some (codes "false") → flag ≡ false
  pub absent : one_text found name ≡ None → flag ≡ false

-- the form of paths that is named, with its moves flipped or not
abbrev pub IsForm : Found → Option Form → Type 0
IsForm found form = (flipped : Bool) × IsFlag found (codes "flip") flipped × (form ≡ form_flipped flipped (form_named (first_value found (codes "form"))))

-- a session's desk, and its version of lines, which is usually that one
pub record AsksToServe (usual : LinesVersion) (found : Found) (words : ServeWords) : Type 0 where
  pub map : option_copied words.map ≡ first_value found (codes "map")
  pub scen : option_copied words.scen ≡ first_value found (codes "scen")
  pub agents : words.agents ≡ unwrap_or (number_given found (codes "agents")) 0
  pub limit : words.limit ≡ unwrap_or (number_given found (codes "limit")) 100000
  pub mode : words.mode ≡ mode_named (first_value found (codes "mode"))
  pub journal : option_copied words.journal ≡ first_value found (codes "journal")
  pub save : option_copied words.save ≡ first_value found (codes "save")
  pub log : option_copied words.log ≡ first_value found (codes "log")
  pub sync : words.is_synced ≡ is_sync_named (first_value found (codes "sync"))
  pub lines : words.lines ≡ lines_named usual (first_value found (codes "lines"))
  pub history : words.history ≡ unwrap_or (number_given found (codes "history")) 1000000

pub record AsksToAudit (found : Found) (words : AuditWords) : Type 0 where
  pub map : words.map.now ≡ unwrap_or (first_value found (codes "map")) []
  pub scen : option_copied words.scen ≡ first_value found (codes "scen")
  pub agents : words.agents ≡ unwrap_or (number_given found (codes "agents")) 0
  pub mode : words.mode ≡ mode_named (first_value found (codes "mode"))
  pub journal : option_copied words.journal ≡ first_value found (codes "journal")
  pub workers : words.workers ≡ unwrap_or (number_given found (codes "workers")) 4

pub record AsksToDrill (found : Found) (words : DrillWords) : Type 0 where
  pub map : words.map.now ≡ unwrap_or (first_value found (codes "map")) []
  pub scen : option_copied words.scen ≡ first_value found (codes "scen")
  pub agents : words.agents ≡ unwrap_or (number_given found (codes "agents")) 0
  pub mode : words.mode ≡ mode_named (first_value found (codes "mode"))
  pub workers : words.workers ≡ unwrap_or (number_given found (codes "workers")) 4
  pub lines : words.lines ≡ lines_named One (first_value found (codes "lines"))
  pub history : words.history ≡ unwrap_or (number_given found (codes "history")) 1000000
  pub scripts : texts_in words.scripts.items ≡ texts_given found (codes "script")

pub record AsksToHost (found : Found) (words : HostWords) : Type 0 where
  pub desk : AsksToServe Two found words.desk
  pub wait : words.wait ≡ number_given found (codes "wait")
  pub workers : words.workers ≡ unwrap_or (number_given found (codes "workers")) 4
  pub names : texts_in words.names.items ≡ texts_given found (codes "name")

pub record AsksToCheck (found : Found) (words : CheckWords) : Type 0 where
  pub map : words.map.now ≡ unwrap_or (first_value found (codes "map")) []
  pub scen : option_copied words.scen ≡ first_value found (codes "scen")
  pub agents : words.agents ≡ number_given found (codes "agents")
  pub mode : words.mode ≡ mode_named (first_value found (codes "mode"))
  pub paths : words.paths.now ≡ unwrap_or (option_map file_named (first_value found (codes "paths"))) []
  pub more : texts_in words.more.items ≡ files_behind (texts_given found (codes "paths"))
  pub form : IsForm found words.form
  pub kinds : words.kinds ≡ kinds_named (option_map raw_values (matched_of found (codes "solves")))
  pub quiet : IsFlag found (codes "quiet") words.quiet
  pub only : IsFlag found (codes "only") words.only
  pub json : IsFlag found (codes "json") words.is_json
  pub own_cells : IsFlag found (codes "own-cells") words.own_cells
  pub workers : words.workers ≡ unwrap_or (number_given found (codes "workers")) 4

pub record AsksToDraw (found : Found) (words : DrawWords) : Type 0 where
  pub map : words.map.now ≡ unwrap_or (first_value found (codes "map")) []
  pub scen : option_copied words.scen ≡ first_value found (codes "scen")
  pub agents : words.agents ≡ number_given found (codes "agents")
  pub mode : words.mode ≡ mode_named (first_value found (codes "mode"))
  pub journal : option_copied words.journal ≡ first_value found (codes "journal")
  pub paths : option_copied words.paths ≡ option_map file_named (first_value found (codes "paths"))
  pub at : words.at ≡ number_given found (codes "at")
  pub shown : words.shown ≡ range_of (unwrap_or (first_value found (codes "agents-shown")) [])
  pub kinds : words.kinds ≡ option_map named_kinds (option_map raw_values (matched_of found (codes "solves")))

pub record AsksToPage (found : Found) (words : PageWords) : Type 0 where
  pub map : words.map.now ≡ unwrap_or (first_value found (codes "map")) []
  pub scen : option_copied words.scen ≡ first_value found (codes "scen")
  pub agents : words.agents ≡ number_given found (codes "agents")
  pub mode : words.mode ≡ mode_named (first_value found (codes "mode"))
  pub journal : option_copied words.journal ≡ option_or (first_value found (codes "journal")) (first_value found (codes "log"))
  pub paths : option_copied words.paths ≡ option_map file_named (first_value found (codes "paths"))
  pub kinds : words.kinds ≡ kinds_named (option_map raw_values (matched_of found (codes "solves")))
  pub title : option_copied words.title ≡ first_value found (codes "title")

-- what the word of that name asks for
abbrev pub AsksFor : List ℕ → Found → Words → Type 0
AsksFor name found Version = ⊥
AsksFor name found (Serve words) = AsksToServe One found words
AsksFor name found (Audit words) = (name ≡ codes "audit") × AsksToAudit found words
AsksFor name found (Drill words) = (name ≡ codes "drill") × AsksToDrill found words
AsksFor name found (Host words) = (name ≡ codes "host") × AsksToHost found words
AsksFor name found (Check words) = (name ≡ codes "check") × AsksToCheck found words
AsksFor name found (Draw words) = (name ≡ codes "draw") × AsksToDraw found words
AsksFor name found (Page words) = (name ≡ codes "page") × AsksToPage found words

-- the matches of the word that the parse met ask for that
pub record AsksInWord (matches : ArgMatches) (words : Words) : Type 0 where
  pub name : List ℕ
  pub inner : Found
  pub named : subcommand_name_of matches ≡ Some name
  pub rows : option_map (λ p. p.1) (subcommand_rows_of matches) ≡ Some (rows_of inner)
  pub asks : AsksFor name inner words

-- a session without files
abbrev pub usual_words : ServeWords
usual_words = record { map = None; scen = None; agents = 0; limit = 100000; mode = Stay; journal = None; save = None; log = None; is_synced = true; lines = One; history = 1000000 }

-- what all words ask for: the version by its flag, before all else; that of the word that was met; or a session, where none was
abbrev pub Asks : ArgMatches → Words → Type 0
Asks matches words =
    ((words ≡ Version) × (one_text (found_of matches) (codes "version") ≢ None) × (one_text (found_of matches) (codes "version") ≢ Some (codes "false")))
    ⊎ ((one_text (found_of matches) (codes "version") ≢ Some (codes "true"))
    × (AsksInWord matches words ⊎ ((has_subcommand matches ≡ false) × (words ≡ Serve usual_words))))

-- whether the flag for more to be told is given behind the word that the parse met
abbrev pub IsToldBehind : ArgMatches → Bool → Type 0
IsToldBehind matches told =
    ((has_subcommand matches ≡ false) × (told ≡ false))
    ⊎ ((inner : Found) × (option_map (λ p. p.1) (subcommand_rows_of matches) ≡ Some (rows_of inner)) × IsFlag inner (codes "verbose") told)

-- whether it is given before the word, or else behind it
abbrev pub IsVerbose : ArgMatches → Bool → Type 0
IsVerbose matches verbose =
    (before : Bool) × IsFlag (found_of matches) (codes "verbose") before
    × (((before ≡ true) × (verbose ≡ true)) ⊎ ((before ≡ false) × IsToldBehind matches verbose))

-- where something is asked for, the matches ask for that
abbrev pub AsksSo : ArgMatches → Asked → Type 0
AsksSo matches (For words verbose) = Asks matches words × IsVerbose matches verbose
AsksSo matches (Refused error) = Unit {0}
AsksSo matches NoMemory = Unit {0}

-- nothing is asked for
abbrev pub IsNothing : Asked → Type 0
IsNothing (For words verbose) = ⊥
IsNothing (Refused error) = Unit {0}
IsNothing NoMemory = Unit {0}

-- what the program's parser finds in the words
abbrev pub IsMatched : List (List ℕ) → ArgMatches → Type 0
IsMatched words matches = (app : App) × IsProgram app × HasMatchesOf app words matches

-- where something is asked for, what the program's parser finds in the words asks for it
abbrev pub IsAskedBy : List (List ℕ) → Asked → Type 0
IsAskedBy words (For asked verbose) = (matches : ArgMatches) × IsMatched words matches × Asks matches asked × IsVerbose matches verbose
IsAskedBy words (Refused error) = Unit {0}
IsAskedBy words NoMemory = Unit {0}
