-- What waits at a gate until a log keeps it: which answers go out, and what the log's writer does next (this project's choice).
use Rattle.std.specs.Prelude.{◌≡◌, ◌≢◌, ◌⊎◌, ℕ, ◌<◌, ◌≤◌, true, false, List, length, Option}
use Rattle.desk_commits.specs.Entries.{Entry}
use Rattle.desk_log.specs.Keeping.{IsLogged}
use Rattle.shared_runs.specs.declared.hosts.standings.Fate.{Fate}
use Rattle.shared_runs.specs.declared.hosts.standings.Fate.TheVariants.{GoesOut, Waits, IsLost}
use Rattle.shared_runs.specs.declared.hosts.standings.Standing.{Standing}
use Rattle.shared_runs.specs.declared.hosts.standings.Writing.{Writing}
use Rattle.shared_runs.specs.declared.hosts.standings.Writing.TheVariants.{Due, NotDue, Over}

-- what becomes of an answer that shows entries 1 to that version: it goes out only where the log keeps them all; it waits where the log doesn't yet, and it never goes out once the log has failed
abbrev pub IsFate : Standing → ℕ → Fate → Type 0
IsFate standing shown (GoesOut kept) = (standing.has_failed ≡ false) × (shown ≤ standing.kept) × (kept.version ≡ standing.kept)
IsFate standing shown Waits = (standing.has_failed ≡ false) × (standing.kept < shown)
IsFate standing shown IsLost = standing.has_failed ≡ true

-- the version is that of the last entry of a log, of which a crash leaves all
abbrev pub IsKeptTo : (text kept : Option (List ℕ)) → (count : ℕ) → (check : List ℕ) → (version : ℕ) → Type 0
IsKeptTo text kept count check version = (head : List ℕ) (journal : List Entry) → IsLogged head text kept count check journal → version ≡ length journal

-- what the log's writer does next: it writes where an answer waits for more than the log keeps, and ends once all sessions have
abbrev pub IsWriting : Standing → Writing → Type 0
IsWriting standing Due = (standing.seated ≢ 0) × (standing.has_failed ≡ false) × (standing.kept < standing.asked)
IsWriting standing NotDue = (standing.seated ≢ 0) × ((standing.has_failed ≡ true) ⊎ (standing.asked ≤ standing.kept))
IsWriting standing Over = standing.seated ≡ 0
