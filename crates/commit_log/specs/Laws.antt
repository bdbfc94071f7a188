-- Laws of the texts of logs (consequences of the definitions).
use Rattle.std.specs.Prelude.{◌≡◌, ◌<◌, ◌^◌, ℕ, ◌+◌, ◌-◌, List, [], ◌∷◌, length, take, nat_le, if◌then◌else◌}
use Rattle.std.specs.List.{All}
use Rattle.commit_log.specs.Lines.{IsBody}
use Rattle.commit_log.specs.Text.{check_of, sealed, head_check, log_text}
use Rattle.commit_log.specs.Crashes.{IsLogOf}

-- the entries whose commit lines end within n bytes
abbrev pub whole_within : ℕ → ℕ → List ℕ → List (List ℕ) → List (List ℕ)
whole_within n number check [] = []
whole_within n number check (entry ∷ entries) =
    if nat_le (length (sealed number check entry)) n then entry ∷ whole_within (n - length (sealed number check entry)) (number + 1) (check_of check entry) entries else []

-- of a log that is cut behind its head, the entries that are whole before the cut stand there, and no others
abbrev pub CutsLeaveWholeEntries : Type 0
CutsLeaveWholeEntries = (head : List ℕ) (entries : List (List ℕ)) (n : ℕ) → All IsBody entries → length entries < 2 ^ 64 → IsLogOf head (whole_within n 1 (head_check head) entries) (take (length head + n) (log_text head entries))

-- a text stands for one list of entries
abbrev pub HasOneListOfEntries : Type 0
HasOneListOfEntries = (head : List ℕ) (one other : List (List ℕ)) (text : List ℕ) → All IsBody one → All IsBody other → length one < 2 ^ 64 → length other < 2 ^ 64 → IsLogOf head one text → IsLogOf head other text → one ≡ other
