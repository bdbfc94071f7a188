-- The fault of the first script that has one, from what the threads give back; it is never the sink's.
use Rattle.std.specs.Prelude.{IfErr}
use Rattle.std.proofs.Common.{◌≡◌, ◌⊎◌, ℕ, ◌+◌, List, [], ◌∷◌, Option, Result, Ok, Err, false, inl, inr, ap, subst, ◌∙◌}
use Rattle.plan_table.specs.declared.tracks.Mode.{Mode}
use Rattle.desk_commits.specs.State.{DeskState, opening}
use Rattle.desk_commits.specs.declared.limits.TheConstants.{MOST_ENTRIES}
use Rattle.session_protocol.specs.declared.bounds.ServeFault.{ServeFault}
use Rattle.desk_shared.specs.Passes.{PassState, Sharing}
use Rattle.shared_runs.specs.DrillFaults.{HasEnded, WasServed, IsFirstFaultOfScripts, IsScriptsFault, IsSharedFault, FailsUnwritten}
use Rattle.shared_runs.specs.Drills.{IsSession}
use Rattle.solver_check.specs.Faults.{is_of_sink}
use Rattle.solver_check.specs.Inputs.{Input}
use Rattle.solver_check.specs.declared.faults.RunFault.{RunFault}
use Rattle.solver_check.specs.declared.faults.RunFault.TheVariants.{OutOfMemory}
use Rattle.shared_runs.proofs.Numbering.{IsGiven}
use Rattle.solver_check.proofs.Unserved.{scene_unserved, session_told}

-- what holds of a fault, where there is one
pub on_err : {T : Type 0} (r : Result T RunFault) (P Q : RunFault → Type 0) → ((fault : RunFault) → P fault → Q fault) → IfErr r P → IfErr r Q
on_err (Ok value) P Q more is = tt
on_err (Err fault) P Q more is = more fault is

-- how a script's session ended
pub has_ended : (shared : Sharing) (start : DeskState) (planner : ℕ) (script text : Input) (before after : PassState) (ended then : Result ℕ ServeFault) → IsGiven start planner before → text ≡ script → ended ≡ then → IsSession shared before text after ended → HasEnded shared start planner script then
has_ended shared start planner script text before after ended then given whole is session =
    record {
      old = before;
      new = after;
      begins = given.begins;
      nothing_seen = given.nothing_seen;
      number = given.number;
      session = subst (λ (t : Input). IsSession shared before t after then) whole (subst (λ (e : Result ℕ ServeFault). IsSession shared before text after e) is session);
    }

-- a script before the others was served
pub later_fault : (shared : Sharing) (start : DeskState) (planner : ℕ) (script : Input) (later : List Input) (fault : RunFault) → WasServed shared start planner script → IsScriptsFault shared start (planner + 1) later fault → IsScriptsFault shared start planner (script ∷ later) fault
later_fault shared start planner script later fault was (inl none) = inl none
later_fault shared start planner script later fault was (inr first) = inr (inr (was, first))

-- no script fails to be answered
pub first_unbroken : (shared : Sharing) (start : DeskState) (planner : ℕ) (scripts : List Input) (fault : RunFault) → IsFirstFaultOfScripts shared start planner scripts fault → is_of_sink fault ≡ false
first_unbroken shared start planner [] fault first = absurd first
first_unbroken shared start planner (script ∷ later) fault (inl (why, ended, told)) = ap is_of_sink told ∙ (session_told why).1 ∙ ended.session.unbroken
first_unbroken shared start planner (script ∷ later) fault (inr (was, more)) = first_unbroken shared start (planner + 1) later fault more

-- nor does what comes before a drill writes
at_scripts : (start : DeskState) (scripts : List Input) (fault : RunFault) → (fault ≡ OutOfMemory) ⊎ IsSharedFault start scripts fault → is_of_sink fault ≡ false
at_scripts start scripts fault (inl none) = ap is_of_sink none
at_scripts start scripts fault (inr (shared, inl first)) = first_unbroken shared start 1 scripts fault first
at_scripts start scripts fault (inr (shared, inr lost)) = ap is_of_sink lost.told

pub unwritten : (map : List ℕ) (scen : Option (List ℕ)) (agents : ℕ) (mode : Mode) (scripts : List Input) (fault : RunFault) → FailsUnwritten map scen agents mode scripts fault → is_of_sink fault ≡ false
unwritten map scen agents mode scripts fault (inl opens) = (scene_unserved map scen agents fault opens).1
unwritten map scen agents mode scripts fault (inr at) = at_scripts (opening at.scene MOST_ENTRIES) scripts fault at.why

-- the fault of scripts over a shared desk
pub of_scripts : (shared : Sharing) (start : DeskState) (scripts : List Input) (fault : RunFault) → IsScriptsFault shared start 1 scripts fault → (fault ≡ OutOfMemory) ⊎ IsSharedFault start scripts fault
of_scripts shared start scripts fault (inl none) = inl none
of_scripts shared start scripts fault (inr first) = inr (shared, inl first)
