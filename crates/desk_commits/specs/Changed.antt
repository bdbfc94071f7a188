-- What changed in the report of a desk: since an earlier version of it, or by a commit that is tried (this project's choice of the questions).
use Rattle.std.specs.Prelude.{◌≡◌, ℕ, ◌<◌, ◌≤◌, Result, Ok, Err}
use Rattle.desk_report.specs.Changes.{AreDifferences}
use Rattle.desk_report.specs.declared.changed.Changes.{Changes}
use Rattle.desk_commits.specs.Commits.{Tries}
use Rattle.desk_commits.specs.Entries.{Entry}
use Rattle.desk_commits.specs.Questions.{ShowsReport}
use Rattle.desk_commits.specs.State.{DeskState, version_of, earlier}
use Rattle.desk_commits.specs.declared.answers.Reading.{Reading}
use Rattle.desk_commits.specs.declared.answers.Refusal.{Refusal}
use Rattle.desk_commits.specs.declared.changed.SinceFault.{SinceFault}
use Rattle.desk_commits.specs.declared.changed.SinceFault.TheVariants.{Ahead, Forgotten, OutOfMemory}

-- what changed from the report of one desk to that of another
pub record HasChanged (old new : DeskState) (changes : Changes) : Type 0 where
  pub before : Reading
  pub after : Reading
  pub was : ShowsReport old before
  pub is : ShowsReport new after
  pub changed : AreDifferences before.report after.report changes

-- what a commit would change, and the version that it would make; or the first reason to refuse it, or want of memory
abbrev pub TellsTrial : DeskState → Entry → Result (ℕ × Changes) Refusal → Type 0
TellsTrial desk commit answer = Tries desk commit (HasChanged desk) answer

-- the desk's version, and what changed since an earlier one; or that no such version was, that what changed since is no longer
-- kept but from a later version on, or want of memory
abbrev pub TellsChanges : DeskState → ℕ → Result (ℕ × Changes) SinceFault → Type 0
TellsChanges desk version (Ok (now, changes)) = (version ≤ version_of desk) × (now ≡ version_of desk) × HasChanged (earlier desk version) desk changes
TellsChanges desk version (Err (Ahead now)) = (version_of desk < version) × (now ≡ version_of desk)
TellsChanges desk version (Err (Forgotten first)) = (version < first) × (first ≤ version_of desk)
TellsChanges desk version (Err OutOfMemory) = version ≤ version_of desk
