-- A check of several files of paths, which has a line for each (this project's choice).
use Rattle.std.specs.Prelude.{◌≡◌, ◌⊎◌, ◌<◌, ℕ, Bool, true, false, not, ◌==◌, ◌&&◌, ◌||◌, List, [], ◌∷◌, ◌++◌, Option, Some, None, length, drop, map, codes, bytes_eq, nat_eq, slice_index_or, unwrap_or, if◌then◌else◌}
use Rattle.std.specs.List.{filter, flat_map, starts_with}
use Rattle.std.specs.Borrow.{Bor}
use Rattle.std.specs.Io.KnownBytes.{Appends}
use Rattle.bench_reader.specs.Lines.{lines_of}
use Rattle.desk_report.specs.LineText.{answer_text}
use Rattle.solver_check.specs.Checks.{ChecksIn, IsCheckFault}
use Rattle.solver_check.specs.Shown.{shown_letter}
use Rattle.solver_check.specs.declared.checks.costs.Checked.{Checked}
use Rattle.solver_check.specs.declared.checks.faults.CheckFault.{CheckFault}
use Rattle.solver_check.specs.declared.checks.listings.Listing.TheVariants.{Counts}
use Rattle.solver_check.specs.declared.faults.Fault.{Fault}
use Rattle.desk_cli.specs.declared.words.CheckWords.{CheckWords}
use Rattle.desk_io.specs.Texts.{IsTold, IsUnread}
use Rattle.std.specs.Option.{option_copied}
use Rattle.mapf_desk.specs.Files.{OfFiles}
use Rattle.mapf_desk.specs.Runs.{HasSolved, style_asked}
use Rattle.mapf_desk.specs.Statuses.{answered}
use Rattle.mapf_desk.specs.declared.checking_row.Row.{Row}
use Rattle.mapf_desk.specs.declared.statuses.RunEnd.{RunEnd}
use Rattle.mapf_desk.specs.declared.statuses.RunEnd.TheVariants.{Yes, No, Faulty}

-- the lines of a check but the version, the end and the answer
abbrev pub is_fact : List ℕ → Bool
is_fact line = not (bytes_eq line (codes "version 0")) && not (bytes_eq line (codes "end")) && not (starts_with nat_eq line (codes "solves "))

abbrev pub behind_comma : List ℕ → List ℕ
behind_comma line = codes ", " ++ line

-- a file's name, as it is shown, and a colon
abbrev pub name_text : List ℕ → List ℕ
name_text file = map shown_letter file ++ codes ": "

-- the file's name, the answer, and what else the text of its check says, in one line
abbrev pub answer_row : (file : List ℕ) → (solved : Bool) → (text : List ℕ) → List ℕ
answer_row file solved text =
    name_text file ++ codes "solves " ++ answer_text solved ++ flat_map behind_comma (filter is_fact (lines_of text)) ++ codes "\n"

-- in JSON the letters of a name have a backslash before a quote and a backslash
abbrev pub json_letter : ℕ → List ℕ
json_letter letter = if letter == 34 || letter == 92 then 92 ∷ letter ∷ [] else letter ∷ []

abbrev pub json_name : List ℕ → List ℕ
json_name name = flat_map (λ byte. json_letter (shown_letter byte)) name

-- the file's name, and a comma, or what stands in place of that
abbrev pub json_front : (file : List ℕ) → (behind : List ℕ) → List ℕ
json_front file behind = codes "{\"file\":\"" ++ json_name file ++ codes "\"" ++ behind

-- the object that the text of a check is, with the file's name as its first member
abbrev pub json_row : (file : List ℕ) → (text : List ℕ) → List ℕ
json_row file text = json_front file (codes ",") ++ drop 1 text

-- the row of a file by the text of its check, in lines or as an object
abbrev pub verdict_row : (is_json : Bool) → (file : List ℕ) → (solved : Bool) → (text : List ℕ) → List ℕ
verdict_row true file solved text = json_row file text
verdict_row false file solved text = answer_row file solved text

-- why a file has no verdict
abbrev pub fault_row : (is_json : Bool) → (file : List ℕ) → (why : List ℕ) → List ℕ
fault_row true file why = json_front file (codes ",\"fault\":\"" ++ json_name why ++ codes "\"}\n")
fault_row false file why = name_text file ++ why ++ codes "\n"

-- the paths of that file have a verdict, and the row is that of the quiet text of their check
pub record HasVerdict (told : Option (List ℕ)) (words : CheckWords) (map : List ℕ) (scen : Option (List ℕ)) (file : List ℕ) (row : Row) : Type 0 where
  pub paths : List ℕ
  pub are : IsTold told paths
  pub text : List ℕ
  pub checked : Checked
  pub checks : ChecksIn map scen words.agents words.mode paths words.form words.kinds Counts (style_asked words) (Some []) (Some text) checked
  pub shown : row.text.items ≡ verdict_row words.is_json file checked.solved text
  pub end : row.end ≡ answered checked.solved

-- the file isn't read, or its paths have no verdict: the row says why
pub record HasFault (told : Option (List ℕ)) (words : CheckWords) (map : List ℕ) (scen : Option (List ℕ)) (file : List ℕ) (row : Row) : Type 0 where
  pub end : row.end ≡ Faulty
  pub why : List ℕ
  pub shown : row.text.items ≡ fault_row words.is_json file why
  pub of : ((fault : Fault) × IsUnread file fault)
      ⊎ ((paths : List ℕ) × IsTold told paths × ((fault : CheckFault) × IsCheckFault map scen words.agents words.mode paths words.form fault))

abbrev pub IsRow : (holds : List ℕ → Option (List ℕ)) → CheckWords → List ℕ → Option (List ℕ) → (file : List ℕ) → Row → Type 0
IsRow holds words map scen file row = HasVerdict (holds file) words map scen file row ⊎ HasFault (holds file) words map scen file row

-- a place has the row of the file there, or none for want of memory
abbrev pub IsFilled : (is_row : List ℕ → Row → Type 0) → List (Bor (List ℕ)) → ℕ → Option Row → Type 0
IsFilled is_row files place None = Unit {0}
IsFilled is_row files place (Some row) = (file : Bor (List ℕ)) → file ≡ slice_index_or files place file → is_row file.now row

-- each file has its row, in their order
pub record AreRows (is_row : List ℕ → Row → Type 0) (files : List (Bor (List ℕ))) (rows : List Row) : Type 0 where
  pub as_many : length rows ≡ length files
  pub each : (number : ℕ) (file : Bor (List ℕ)) (row : Row) → number < length files → file ≡ slice_index_or files number file
      → row ≡ slice_index_or rows number row → is_row file.now row

-- the worse of two ends
abbrev pub worse : RunEnd → RunEnd → RunEnd
worse Faulty other = Faulty
worse No Faulty = Faulty
worse No Yes = No
worse No No = No
worse Yes other = other

-- the worst of that end and of the rows' ends
abbrev pub worst_from : RunEnd → List Row → RunEnd
worst_from end [] = end
worst_from end (row ∷ rows) = worst_from (worse end row.end) rows

abbrev pub worst : List Row → RunEnd
worst rows = worst_from Yes rows

-- the paths of each file were checked, and the rows written; the end is the worst
pub record HasCheckedEach (holds : List ℕ → Option (List ℕ)) (words : CheckWords) (files : List (Bor (List ℕ))) (map scen : Option (List ℕ)) (end : RunEnd) : Type 0 where
  pub rows : List Row
  pub are : AreRows (IsRow holds words (unwrap_or map []) scen) files rows
  pub held0 : Option (List ℕ)
  pub held1 : Option (List ℕ)
  pub written : Appends held0 held1 (flat_map (λ row. row.text.items) rows)
  pub is : end ≡ worst rows

-- the paths of the words were checked: those of one file, whose verdict is the end, or of each
abbrev pub HasCheckedPaths : (holds : List ℕ → Option (List ℕ)) → CheckWords → (more : List (Bor (List ℕ))) → RunEnd → Type 0
HasCheckedPaths holds words [] end =
    (solved : Bool) × (end ≡ answered solved)
    × OfFiles holds (Some words.map.now) (option_copied words.scen) None (Some words.paths.now) (λ map scen paths. HasSolved words words.form map scen paths solved)
HasCheckedPaths holds words (file ∷ later) end =
    OfFiles holds (Some words.map.now) (option_copied words.scen) None None (λ map scen none. HasCheckedEach holds words (words.paths ∷ file ∷ later) map scen end)
