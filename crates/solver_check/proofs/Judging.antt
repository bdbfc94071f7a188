-- The verdict on texts, by that on the scene that opens.
use Rattle.std.specs.Prelude.{is_none}
use Rattle.std.specs.Borrow.{Bor}
use Rattle.std.proofs.Common.{◌≡◌, ◌⊎◌, inl, inr, ℕ, List, Option, Some, None, unwrap_or, [], refl, sym, subst}
use Rattle.std.proofs.lemmas.Option.{none-some}
use Rattle.plan_table.specs.declared.tracks.Mode.{Mode}
use Rattle.scene_edits.specs.Scene.{SceneState}
use Rattle.mapf_rules.specs.declared.kinds.Kinds.{Kinds}
use Rattle.path_files.specs.declared.forms.Form.{Form}
use Rattle.path_files.specs.declared.paths.SolverPaths.{SolverPaths}
use Rattle.solver_check.specs.Opens.{IsOpenFault, Opens, bytes_of}
use Rattle.solver_check.specs.CheckEdits.{edits_within}
use Rattle.solver_check.specs.CheckFaults.{HasOpenFaultAlone, IsDisallowed, IsRefused, IsUnjudged, IsUnopened, Spells, of_run}
use Rattle.solver_check.specs.Unread.{verdict_by}
use Rattle.solver_check.specs.Verdicts.{IsOn, IsVerdict}
use Rattle.solver_check.specs.Wrongs.{wrongs_of}
use Rattle.solver_check.specs.declared.faults.RunFault.{RunFault}
use Rattle.solver_check.specs.declared.faults.RunFault.TheVariants as runs
use Rattle.solver_check.specs.declared.checks.faults.CheckFault.{CheckFault}
use Rattle.solver_check.specs.declared.checks.faults.CheckFault.TheVariants.{Paths, Run, Agent, Path, WriteFailed, OutOfMemory}
use Rattle.solver_check.specs.declared.checks.judging.Verdict.{Verdict}
use Rattle.solver_check.proofs.Refusing.{told-so}

-- a verdict on the scene that opens is one on the texts
pub verdict_on : (map : List ℕ) (scen : Option (List ℕ)) (agents : Option ℕ) (mode : Mode) (text : List ℕ) (form : Option Form) (spelled : SolverPaths) (opened : SceneState) (kinds : Kinds) → Spells map scen agents mode text form spelled opened → (verdict : Verdict) → IsOn (is_none scen) spelled opened kinds verdict → IsVerdict map scen agents mode text form kinds verdict
verdict_on map scen agents mode text form spelled opened kinds opens verdict on = inr (record { spelled = spelled; opened = opened; opens = opens; is = on })

-- there is a text where there are bytes
pub none_of_bytes : (text : Option (Bor (List ℕ))) → is_none text ≡ is_none (bytes_of text)
none_of_bytes None = refl
none_of_bytes (Some bytes) = refl

-- the map and the tasks make no scene for a text that isn't read
alone : (map : List ℕ) (scen : Option (List ℕ)) (agents : Option ℕ) (mode : Mode) (text : List ℕ) (form : Option Form) (why : RunFault) → HasOpenFaultAlone map scen agents text form why → IsUnjudged map scen agents mode text form (of_run why)
alone map scen agents mode text form (runs.Map fault) has = inr has
alone map scen agents mode text form (runs.Scen fault) has = inr has
alone map scen agents mode text form (runs.Tasks fault) has = inr has
alone map scen agents mode text form (runs.Journal fault) has = inr has
alone map scen agents mode text form (runs.Replay fault) has = inr has
alone map scen agents mode text form (runs.Serve fault) has = inr has
alone map scen agents mode text form runs.WriteFailed has = inr has
alone map scen agents mode text form runs.PassLost has = inr has
alone map scen agents mode text form runs.TooManyScripts has = inr has
alone map scen agents mode text form runs.OutOfMemory has = tt

-- such a text has a verdict, or that is why there is none
pub unread_fault : (map : List ℕ) (scen : Option (List ℕ)) (agents : Option ℕ) (mode : Mode) (text : List ℕ) (form : Option Form) (unread fault : CheckFault) (verdict : Verdict) (why : RunFault) → IsUnopened map scen agents text form unread → verdict_by unread ≡ Some verdict → fault ≡ of_run why → IsOpenFault map scen (unwrap_or agents 0) why → IsUnjudged map scen agents mode text form fault
unread_fault map scen agents mode text form (Paths why0) fault verdict why reads told same first =
    subst (IsUnjudged map scen agents mode text form) (sym same)
    (alone map scen agents mode text form why (record { unread = why0; verdict = verdict; reads = reads; told = told; first = first }))
unread_fault map scen agents mode text form (Run why0) fault verdict why reads told same first = absurd (none-some verdict told)
unread_fault map scen agents mode text form (Agent agent why0) fault verdict why reads told same first = absurd reads
unread_fault map scen agents mode text form (Path agent time why0) fault verdict why reads told same first = absurd reads
unread_fault map scen agents mode text form WriteFailed fault verdict why reads told same first = absurd reads
unread_fault map scen agents mode text form OutOfMemory fault verdict why reads told same first = absurd (none-some verdict told)

-- the verdict on a text that isn't read
pub unread_verdict : (map : List ℕ) (scen : Option (List ℕ)) (agents : Option ℕ) (mode : Mode) (text : List ℕ) (form : Option Form) (kinds : Kinds) (unread : CheckFault) (verdict : Verdict) (opened : SceneState) → IsUnopened map scen agents text form unread → verdict_by unread ≡ Some verdict → Opens map scen (unwrap_or agents 0) mode opened → IsVerdict map scen agents mode text form kinds verdict
unread_verdict map scen agents mode text form kinds (Paths why0) verdict opened reads told opens =
    inl (record { fault = why0; reads = reads; told = told; opened = opened; opens = opens })
unread_verdict map scen agents mode text form kinds (Run why0) verdict opened reads told opens = absurd (none-some verdict told)
unread_verdict map scen agents mode text form kinds (Agent agent why0) verdict opened reads told opens = absurd reads
unread_verdict map scen agents mode text form kinds (Path agent time why0) verdict opened reads told opens = absurd reads
unread_verdict map scen agents mode text form kinds WriteFailed verdict opened reads told opens = absurd reads
unread_verdict map scen agents mode text form kinds OutOfMemory verdict opened reads told opens = absurd (none-some verdict told)

-- no path is wrong on the scene that opens, and it refuses one or wants memory
disallowed : (map : List ℕ) (scen : Option (List ℕ)) (agents : Option ℕ) (mode : Mode) (text : List ℕ) (form : Option Form) (spelled : SolverPaths) (opened : SceneState) → Spells map scen agents mode text form spelled opened → (fault : CheckFault) → wrongs_of (is_none scen) opened spelled ≡ [] → IsRefused opened (edits_within (is_none scen) opened spelled) fault → IsUnjudged map scen agents mode text form fault
disallowed map scen agents mode text form spelled opened opens fault right (inl first) =
    told-so opened.grid.size first.first.edit first.why fault (λ f. IsDisallowed map scen agents mode text form f → IsUnjudged map scen agents mode text form f) first.told
    (λ agent why refusal. refusal)
    (λ agent time why refusal. refusal)
    (record { spelled = spelled; opened = opened; opens = opens; right = right; first = first })
disallowed map scen agents mode text form spelled opened opens fault right (inr none) = subst (IsUnjudged map scen agents mode text form) (sym none) tt

-- why there is no verdict on the scene that opens
pub fault_on : (map : List ℕ) (scen : Option (List ℕ)) (agents : Option ℕ) (mode : Mode) (text : List ℕ) (form : Option Form) (spelled : SolverPaths) (opened : SceneState) → Spells map scen agents mode text form spelled opened → (fault : CheckFault) → (fault ≡ OutOfMemory) ⊎ ((wrongs_of (is_none scen) opened spelled ≡ []) × IsRefused opened (edits_within (is_none scen) opened spelled) fault) → IsUnjudged map scen agents mode text form fault
fault_on map scen agents mode text form spelled opened opens fault (inl none) = subst (IsUnjudged map scen agents mode text form) (sym none) tt
fault_on map scen agents mode text form spelled opened opens fault (inr refused) = disallowed map scen agents mode text form spelled opened opens fault refused.0 refused.1
