-- One commit at a desk: accepted, or refused for the first reason that holds (this project's choice of reasons).
use Rattle.std.specs.Prelude.{◌≡◌, ◌≢◌, ℕ, ◌+◌, ◌<◌, ◌≤◌, [], Result, Ok, Err}
use Rattle.scene_edits.specs.InOrder.{AreAllowed, IsFirstFault}
use Rattle.desk_commits.specs.Entries.{Entry}
use Rattle.desk_commits.specs.State.{DeskState, version_of, grown}
use Rattle.desk_commits.specs.Stale.{IsStaleBy, IsFresh}
use Rattle.desk_commits.specs.declared.answers.Refusal.{Refusal}
use Rattle.desk_commits.specs.declared.answers.Refusal.TheVariants.{JournalFull, Ahead, NoEdits, Stale, Faulty, OutOfMemory}

-- the journal has room, the planner has seen no version to come, and something is asked for
pub record IsInOrder (desk : DeskState) (commit : Entry) : Type 0 where
  pub room : version_of desk < desk.limit
  pub base : commit.base ≤ version_of desk
  pub edits : commit.edits ≢ []

-- in order, and no entry after its base names one of its things
pub record IsCurrent (desk : DeskState) (commit : Entry) : Type 0 where
  pub in_order : IsInOrder desk commit
  pub fresh : IsFresh desk.journal commit

-- the desk accepts the commit
pub record Accepts (desk : DeskState) (commit : Entry) : Type 0 where
  pub current : IsCurrent desk commit
  pub allowed : AreAllowed desk.scene commit.edits

-- the desk refuses the commit for that reason, the first in this order; want of memory may come in place of Faulty and of acceptance
abbrev pub Refuses : DeskState → Entry → Refusal → Type 0
Refuses desk commit (JournalFull limit) = (desk.limit ≤ version_of desk) × (limit ≡ desk.limit)
Refuses desk commit (Ahead now) = (version_of desk < desk.limit) × (version_of desk < commit.base) × (now ≡ version_of desk)
Refuses desk commit NoEdits = (version_of desk < desk.limit) × (commit.base ≤ version_of desk) × (commit.edits ≡ [])
Refuses desk commit (Stale now thing at) = IsInOrder desk commit × (now ≡ version_of desk) × IsStaleBy desk.journal commit thing at
Refuses desk commit (Faulty index why) = IsCurrent desk commit × IsFirstFault desk.scene commit.edits index why
Refuses desk commit OutOfMemory = IsCurrent desk commit

-- what is answered to a commit, and the desk that it leaves: a refusal leaves it as it was, and hands the commit back
abbrev pub Committed : DeskState → Entry → Result ℕ (Refusal × Entry) → DeskState → Type 0
Committed old commit (Ok version) new = Accepts old commit × (version ≡ version_of old + 1) × (new ≡ grown old commit)
Committed old commit (Err (refusal, back)) new = Refuses old commit refusal × (back ≡ commit) × (new ≡ old)

-- the trial of a commit: the reason for which it would be refused, or the version that it would make, and an answer of the desk that it would make
abbrev pub Tries : {X : Type 0} → DeskState → Entry → (DeskState → X → Type 0) → Result (ℕ × X) Refusal → Type 0
Tries desk commit IsAnswer (Ok (version, answer)) = Accepts desk commit × (version ≡ version_of desk + 1) × IsAnswer (grown desk commit) answer
Tries desk commit IsAnswer (Err refusal) = Refuses desk commit refusal
