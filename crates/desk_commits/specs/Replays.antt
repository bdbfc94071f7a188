-- Journals, and the desk that commits their entries in order.
use Rattle.std.specs.Prelude.{◌≡◌, ◌≢◌, ℕ, ◌-◌, ◌<◌, List, [], ◌∷◌, Some, take, slice_get, Result, Ok, Err}
use Rattle.plan_table.specs.declared.tracks.Mode.{Mode}
use Rattle.scene_edits.specs.Scene.{SceneState}
use Rattle.desk_commits.specs.Entries.{Entry}
use Rattle.desk_commits.specs.State.{DeskState, opening, grown, after}
use Rattle.desk_commits.specs.Commits.{Accepts, Refuses}
use Rattle.desk_commits.specs.declared.answers.Refusal.{Refusal}
use Rattle.desk_commits.specs.declared.answers.Refusal.TheVariants as why
use Rattle.desk_commits.specs.declared.journals.ReplayFault.{ReplayFault}
use Rattle.desk_commits.specs.declared.journals.ReplayFault.TheVariants.{ModeDiffers, Refused, OutOfMemory}

-- accepted entries in order, and the mode of the scene that they were made on
pub record Log : Type 0 where
  pub mode : Mode
  pub entries : List Entry

-- the desk accepts each entry after the ones before it
abbrev pub IsLegal : DeskState → List Entry → Type 0
IsLegal desk [] = Unit {0}
IsLegal desk (entry ∷ later) = Accepts desk entry × IsLegal (grown desk entry) later

-- the first entry that the desk refuses, counted from 1, and why it does
pub record IsFirstRefused (desk : DeskState) (entries : List Entry) (number : ℕ) (reason : Refusal) : Type 0 where
  pub entry : Entry
  pub counted : 0 < number
  pub there : slice_get entries (number - 1) ≡ Some entry
  pub before : IsLegal desk (take (number - 1) entries)
  pub refused : Refuses (after desk (take (number - 1) entries)) entry reason

-- the fault of an entry that was refused
abbrev pub fault_of : ℕ → Refusal → ReplayFault
fault_of number why.OutOfMemory = OutOfMemory
fault_of number reason = Refused number reason

-- what comes of entries at a desk; for want of memory it refuses none but an entry that the first four reasons let pass
abbrev pub Recommits : DeskState → List Entry → Result DeskState ReplayFault → Type 0
Recommits old entries (Ok new) = IsLegal old entries × (new ≡ after old entries)
Recommits old entries (Err ModeDiffers) = ⊥
Recommits old entries (Err (Refused number reason)) = IsFirstRefused old entries number reason × (reason ≢ why.OutOfMemory)
Recommits old entries (Err OutOfMemory) = (number : ℕ) × IsFirstRefused old entries number why.OutOfMemory

-- what comes of a journal at a scene under a limit: its entries are committed where the modes are the same
abbrev pub IsReplay : SceneState → ℕ → Log → Result DeskState ReplayFault → Type 0
IsReplay scene limit log (Err ModeDiffers) = scene.mode ≢ log.mode
IsReplay scene limit log result = (scene.mode ≡ log.mode) × Recommits (opening scene limit) log.entries result
