-- What the values of options stand for (this project's choice).
use Rattle.std.specs.Prelude.{
  ℕ,
  Bool,
  true,
  false,
  not,
  ◌==◌,
  nat_le,
  List,
  [],
  Option,
  Some,
  None,
  drop,
  map,
  option_map,
  option_and_then,
  unwrap_or,
  codes,
  bytes_eq,
  if◌then◌else◌,
}
use Rattle.std.specs.List.{before_first, after_first}
use Rattle.std.specs.Borrow.{Bor}
use Rattle.bench_reader.specs.Words.{number_of}
use Rattle.plan_table.specs.declared.tracks.Mode.{Mode}
use Rattle.plan_table.specs.declared.tracks.Mode.TheVariants.{Stay, Disappear}
use Rattle.mapf_rules.specs.declared.kinds.Kinds.{Kinds}
use Rattle.session_lines.specs.Kinds.{named_kinds}
use Rattle.session_lines.specs.Values.{agent_of, with_both}
use Rattle.session_lines.specs.declared.versions.LinesVersion.{LinesVersion}
use Rattle.session_lines.specs.declared.versions.LinesVersion.TheVariants.{One, Two}
use Rattle.path_files.specs.declared.forms.Form.{Form}
use Rattle.path_files.specs.declared.forms.Form.TheVariants.{ByTime, ByAgent, BySession, ByMoves, ByFlippedMoves, ByJson, BySchedule}
use Rattle.clap.specs.Matches.{first_value, matched_of, raw_values}
use Rattle.clap.specs.declared.parser.matches.Found.{Found}

-- the number that an option names: decimal digits
abbrev pub number_given : Found → List ℕ → Option ℕ
number_given found name = option_and_then number_of (first_value found name)

-- the file of that name; a dash stands for standard input (as usual on Unix)
abbrev pub file_named : List ℕ → List ℕ
file_named name = if bytes_eq name (codes "-") then codes "/dev/stdin" else name

-- the files that stand behind the first
abbrev pub files_behind : List (List ℕ) → List (List ℕ)
files_behind names = map file_named (drop 1 names)

-- the texts of references
abbrev pub texts_in : List (Bor (List ℕ)) → List (List ℕ)
texts_in texts = map (λ text. text.now) texts

-- the texts that an option, or none, names
abbrev pub texts_given : Found → List ℕ → List (List ℕ)
texts_given found name = unwrap_or (option_map raw_values (matched_of found name)) []

-- stay, unless the other mode is named
abbrev pub mode_named : Option (List ℕ) → Mode
mode_named None = Stay
mode_named (Some text) = if bytes_eq text (codes "disappear") then Disappear else Stay

-- a log is synced, unless off is named
abbrev pub is_sync_named : Option (List ℕ) → Bool
is_sync_named None = true
is_sync_named (Some text) = not (bytes_eq text (codes "off"))

-- the version of lines that is named, or the usual one
abbrev pub lines_named : LinesVersion → Option (List ℕ) → LinesVersion
lines_named usual None = usual
lines_named usual (Some text) = if bytes_eq text (codes "2") then Two else One

-- the form that is named
abbrev pub form_named : Option (List ℕ) → Option Form
form_named None = None
form_named (Some text) =
    if bytes_eq text (codes "time") then Some ByTime
    else if bytes_eq text (codes "agent") then Some ByAgent
    else if bytes_eq text (codes "session") then Some BySession
    else if bytes_eq text (codes "moves") then Some ByMoves
    else if bytes_eq text (codes "json") then Some ByJson
    else if bytes_eq text (codes "schedule") then Some BySchedule
    else None

-- that form, where moves are flipped or aren't; flipped without a form, the paths are moves
abbrev pub form_flipped : Bool → Option Form → Option Form
form_flipped true None = Some ByFlippedMoves
form_flipped true (Some ByMoves) = Some ByFlippedMoves
form_flipped _ form = form

-- the conflicts of the classical problem
abbrev pub classical : Kinds
classical = record { vertex = true; edge = false; follow = false; swap = true; cycle = false }

-- the kinds that are named; where none is, those of the classical problem
abbrev pub kinds_named : Option (List (List ℕ)) → Kinds
kinds_named None = classical
kinds_named (Some texts) = named_kinds texts

abbrev pub is_hyphen : ℕ → Bool
is_hyphen byte = byte == 45

-- a range of agents, `A-B`: one stands before the first hyphen, and behind it one that is no less
abbrev pub range_of : List ℕ → Option (ℕ × ℕ)
range_of text = option_and_then (λ range. if nat_le range.0 range.1 then Some range else None)
    (with_both (λ least greatest. (least, greatest)) (agent_of (before_first is_hyphen text)) (agent_of (after_first is_hyphen text)))
