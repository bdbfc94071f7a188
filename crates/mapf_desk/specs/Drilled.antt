-- A drill of the scripts of files; what it writes goes out through a buffer (this project's choice).
use Rattle.std.specs.Prelude.{◌≡◌, ◌⊎◌, ℕ, ◌<◌, List, [], Any, Option, Some, None, Bool, Vec, unwrap_or}
use Rattle.std.specs.Global.{Global}
use Rattle.std.specs.Option.{option_copied}
use Rattle.shared_runs.specs.Drills.{Drills, inputs_of}
use Rattle.shared_runs.specs.DrillFaults.{FailsDrill}
use Rattle.solver_check.specs.declared.faults.Fault.{Fault}
use Rattle.solver_check.specs.declared.faults.Fault.TheVariants.{Run}
use Rattle.solver_check.specs.declared.faults.RunFault.{RunFault}
use Rattle.solver_check.specs.declared.faults.RunFault.TheVariants.{OutOfMemory, WriteFailed}
use Rattle.desk_cli.specs.declared.words.DrillWords.{DrillWords}
use Rattle.desk_io.specs.Texts.{AreTold, IsUnread}
use Rattle.mapf_desk.specs.Files.{OfFiles}
use Rattle.mapf_desk.specs.Runs.{IsWithoutTexts}

-- the scripts were served over one desk of the texts, with that answer
pub record HasDrilled (words : DrillWords) (map scen : Option (List ℕ)) (scripts : List (Vec ℕ Global)) (same : Bool) : Type 0 where
  pub held0 : Option (List ℕ)
  pub held1 : Option (List ℕ)
  pub drills : Drills (unwrap_or map []) scen words.agents words.mode (inputs_of words.lines scripts) held0 held1 same

-- the texts, the scripts, memory or the writer failed the drill; or it came to its end, and could not be sent
pub record IsUndrilled (words : DrillWords) (map scen : Option (List ℕ)) (scripts : List (Vec ℕ Global)) (fault : RunFault) : Type 0 where
  pub held0 : Option (List ℕ)
  pub held1 : Option (List ℕ)
  pub why : (fault ≡ OutOfMemory) ⊎ FailsDrill (unwrap_or map []) scen words.agents words.mode (inputs_of words.lines scripts) held0 held1 fault
      ⊎ ((fault ≡ WriteFailed) × (same : Bool) × HasDrilled words map scen scripts same)

-- the texts and the scripts of the files of the words, each in its place, are so
pub record OfScripts (holds : List ℕ → Option (List ℕ)) (words : DrillWords) (IsSo : (map scen : Option (List ℕ)) → List (Vec ℕ Global) → Type 0) : Type 0 where
  pub scripts : List (Vec ℕ Global)
  pub told : AreTold holds words.scripts.items scripts
  pub texts : OfFiles holds (Some words.map.now) (option_copied words.scen) None None (λ map scen none. IsSo map scen scripts)

-- agents are asked for, and no scenario that has their tasks
abbrev pub LacksDrillTasks : DrillWords → Type 0
LacksDrillTasks words = (0 < words.agents) × (words.scen ≡ None)

-- a script isn't read, or memory was wanting for one more
abbrev pub IsScriptUnread : DrillWords → Fault → Type 0
IsScriptUnread words fault = (fault ≡ Run OutOfMemory) ⊎ Any (λ file. IsUnread file.now fault) words.scripts.items

-- why a drill did not come to its end: the words lack a scenario, a text or a script isn't read, or these fail it so
abbrev pub FailsDrillOver : (List ℕ → Option (List ℕ)) → DrillWords → Fault → Type 0
FailsDrillOver holds words fault =
    IsWithoutTexts (LacksDrillTasks words) holds (Some words.map.now) (option_copied words.scen) None None fault
    ⊎ IsScriptUnread words fault
    ⊎ ((why : RunFault) × (fault ≡ Run why) × OfScripts holds words (λ map scen scripts. IsUndrilled words map scen scripts why))
