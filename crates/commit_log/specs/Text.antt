-- The text of a log: a head, and each entry with its commit line, which has a check of all before it (this project's choice).
use Rattle.std.specs.Prelude.{ℕ, ◌+◌, Bool, ◌&&◌, ◌||◌, nat_eq, nat_le, List, [], ◌∷◌, ◌++◌, length, take, codes, decimal}
use Rattle.std.specs.List.{list_all}
use Rattle.sha2.specs.Sha256.{sha256}
use Rattle.hex.specs.Hex.{encode_lower}
use Rattle.plan_table.specs.declared.tracks.Mode.{Mode}
use Rattle.plan_table.specs.declared.tracks.Mode.TheVariants.{Stay, Disappear}

-- CHECK: the first 16 hex digits of SHA-256 over the CHECK before and the text
abbrev pub check_of : List ℕ → List ℕ → List ℕ
check_of before text = encode_lower (take 8 (sha256 (before ++ text)))

-- commit NUMBER CHECK
abbrev pub commit_words : ℕ → List ℕ → List ℕ
commit_words number check = codes "commit " ++ (decimal number ++ (codes " " ++ check))

abbrev pub commit_line : ℕ → List ℕ → List ℕ
commit_line number check = commit_words number check ++ codes "\n"

-- an entry and its commit line
abbrev pub sealed : ℕ → List ℕ → List ℕ → List ℕ
sealed number before entry = entry ++ commit_line number (check_of before entry)

-- entries numbered from n, behind that CHECK
abbrev pub entries_text : ℕ → List ℕ → List (List ℕ) → List ℕ
entries_text n check [] = []
entries_text n check (entry ∷ entries) = sealed n check entry ++ entries_text (n + 1) (check_of check entry) entries

-- the CHECK of the last of the entries behind that CHECK
abbrev pub last_check : List ℕ → List (List ℕ) → List ℕ
last_check check [] = check
last_check check (entry ∷ entries) = last_check (check_of check entry) entries

-- the CHECK of a head
abbrev pub head_check : List ℕ → List ℕ
head_check head = check_of [] head

-- the text of a log
abbrev pub log_text : List ℕ → List (List ℕ) → List ℕ
log_text head entries = head ++ entries_text 1 (head_check head) entries

-- mode stay | mode disappear
abbrev pub mode_line : Mode → List ℕ
mode_line Stay = codes "mode stay\n"
mode_line Disappear = codes "mode disappear\n"

-- log 1, the mode, scene DIGEST
abbrev pub head_text : Mode → List ℕ → List ℕ
head_text mode digest = codes "log 1\n" ++ (mode_line mode ++ (codes "scene " ++ (digest ++ codes "\n")))

-- DIGEST: SHA-256 of the map's bytes, a line feed, the scenario's bytes (none: nothing), a line feed, and the number of agents, in hex
abbrev pub scene_digest : List ℕ → List ℕ → ℕ → List ℕ
scene_digest map scen agents = encode_lower (sha256 ((((map ++ codes "\n") ++ scen) ++ codes "\n") ++ decimal agents))

-- 0 to 9 are 48 to 57, a to f are 97 to 102
abbrev pub is_lower_hex_digit : ℕ → Bool
is_lower_hex_digit byte = (nat_le 48 byte && nat_le byte 57) || (nat_le 97 byte && nat_le byte 102)

-- what can stand for DIGEST: 64 hex digits, none an upper case letter
abbrev pub is_digest : List ℕ → Bool
is_digest text = nat_eq (length text) 64 && list_all is_lower_hex_digit text
