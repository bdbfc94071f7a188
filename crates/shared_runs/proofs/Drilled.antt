-- What a drill comes to, from what its parts have done.
use Rattle.std.specs.Prelude.{◌↔◌, IsTrue, All, Any, slice_index_or}
use Rattle.std.specs.Global.{Global}
use Rattle.std.proofs.Common.{◌≡◌, ◌⊎◌, ⊎_elim, ℕ, zero, suc, ◌+◌, ◌<◌, ◌≤◌, Bool, false, List, [], length, Vec, Option, arith, inl, inr, refl, sym, ap, subst, ◌∙◌}
use Rattle.plan_table.specs.declared.tracks.Mode.{Mode}
use Rattle.scene_edits.specs.Scene.{SceneState}
use Rattle.desk_report.specs.Bytes.{AppendsFront}
use Rattle.desk_report.specs.Report.{IsReportOf}
use Rattle.desk_report.specs.declared.reports.Report.{Report}
use Rattle.desk_commits.specs.Entries.{Entry}
use Rattle.desk_commits.specs.Questions.{ShowsReport}
use Rattle.desk_commits.specs.Replays.{IsLegal}
use Rattle.desk_commits.specs.State.{DeskState, opening, after}
use Rattle.desk_commits.specs.declared.answers.Reading.{Reading}
use Rattle.desk_commits.specs.declared.limits.TheConstants.{MOST_ENTRIES}
use Rattle.desk_shared.specs.Calls.{IsFirst}
use Rattle.desk_shared.specs.Laws.{HasEachNumber}
use Rattle.desk_shared.specs.Passes.{PassState, Held, Sharing, Owns, MayGive, HasJust, AreOfPlanners, own_of, version_at}
use Rattle.desk_shared.proofs.Alone.{alone_finds_what_it_saw_holds}
use Rattle.shared_runs.specs.DrillFaults.{FailsDrill, FailsUnwritten}
use Rattle.shared_runs.specs.Drills.{AreJoined, AreOfEntries, AreServed, ComesTo, HasGathered, HasServed, IsEnd, drill_text, inputs_of}
use Rattle.session_lines.specs.declared.versions.LinesVersion.{LinesVersion}
use Rattle.solver_check.specs.Inputs.{Input}
use Rattle.solver_check.specs.Opens.{Opens}
use Rattle.shared_runs.specs.declared.drilling.TheConstants.{MOST_SCRIPTS}
use Rattle.solver_check.specs.declared.faults.RunFault.{RunFault}
use Rattle.solver_check.specs.declared.faults.RunFault.TheVariants.{OutOfMemory, PassLost, TooManyScripts, WriteFailed}
use Rattle.shared_runs.proofs.ScriptSessions.{texts_length}

-- the operator's pass and the scripts', which were joined into it, have each number of the desk
each_number : (pass : PassState) (scripts : List Input) → pass.planners ≡ length scripts + 1 → pass.planner ≡ 0 → AreJoined 1 (length scripts) pass.past → HasEachNumber pass
each_number pass scripts all zeroth joined zero below = inl (sym zeroth)
each_number pass scripts all zeroth joined (suc number) below = inr (inr (joined (suc number) (omega arith) (omega (arith, all, below))))

-- so the last reading, and the desk as it was closed, are of what the first pass had seen
ends_at : (pass : PassState) (reading : Reading) (desk : DeskState) → HasEachNumber pass → All (HasJust pass.made) pass.past → IsEnd pass reading desk → AreOfEntries pass.start pass.made reading desk
ends_at pass reading desk each kept is =
    let read = is.read in
    let same = is.shown.same in
    let on = is.shown.goes_on in
    let seen : read.made ≡ pass.made = alone_finds_what_it_saw_holds pass read.made each kept on in
    let each_then : HasEachNumber read = λ number below.
    ⊎_elim (λ (own : number ≡ pass.planner). inl (own ∙ sym same.planner))
    (λ rest. ⊎_elim (λ (give : MayGive pass number). inr (inl (ap (λ (u : List Bool). slice_index_or u number false) same.unused ∙ give)))
    (λ joined. inr (inr (subst (Any (λ (numbered : ℕ × List Entry). numbered.0 ≡ number)) (sym same.past) joined))) rest)
    (each number (subst (λ (n : ℕ). number < n) same.shared below)) in
    let kept_then : All (HasJust read.made) read.past = subst (All (HasJust read.made)) (sym same.past) on.past in
    let found : is.closed.found ≡ read.made = alone_finds_what_it_saw_holds read is.closed.found each_then kept_then is.closed.goes_on in
    record {
      legal = subst (IsLegal pass.start) seen on.legal;
      within = subst (λ (made : List Entry). version_at pass.start made ≤ pass.start.limit) seen on.within;
      shown = subst (λ (made : List Entry). ShowsReport (after pass.start made) reading) seen is.shown.answered;
      closed = is.closed.desk_is ∙ ap (λ (start : DeskState). after start is.closed.found) same.start ∙ ap (after pass.start) (found ∙ seen);
    }

pub comes_to : (version : LinesVersion) (map : List ℕ) (scen : Option (List ℕ)) (agents : ℕ) (mode : Mode) (scripts : List (Vec ℕ Global)) (planners : ℕ) (scene : SceneState) (shared : Sharing) (began : PassState) (first : Held) (reading : Reading) (desk : DeskState) (audited : Report) (same : Bool)
    → Opens map scen agents mode scene → planners ≡ length scripts + 1 → IsFirst (opening scene MOST_ENTRIES) planners began → Owns shared first → HasGathered began first.known → HasServed shared began.start first.known 1 (inputs_of version scripts)
    → IsEnd first.known reading desk → IsReportOf desk.scene.grid desk.scene.mode desk.scene.rows audited → IsTrue same ↔ (reading.report ≡ audited) → ComesTo map scen agents mode (inputs_of version scripts) reading same
comes_to version map scen agents mode scripts planners scene shared began first reading desk audited same opens many is owned gathered served ended told answer =
    let planner : first.known.planner ≡ 0 = gathered.planner ∙ is.planner in
    let begins : first.known.start ≡ opening scene MOST_ENTRIES = gathered.start ∙ is.start in
    let all : first.known.planners ≡ length (inputs_of version scripts) + 1 = gathered.planners ∙ is.shared ∙ many ∙ ap (λ (n : ℕ). n + 1) (sym (texts_length version scripts)) in
    let each : HasEachNumber first.known = each_number first.known (inputs_of version scripts) all planner served.0 in
    record {
      scene = scene;
      opens = opens;
      shared = shared;
      first = first;
      owned = owned;
      begins = begins;
      planner = planner;
      none_own = subst (λ (n : ℕ). own_of n first.known.made ≡ []) planner gathered.none_own;
      numbered = subst (λ (n : ℕ). AreOfPlanners n first.known.made) all gathered.numbered;
      served = subst (λ (start : DeskState). AreServed shared start first.known.made 1 (inputs_of version scripts)) is.start served.1;
      desk = desk;
      ended = subst (λ (start : DeskState). AreOfEntries start first.known.made reading desk) begins (ends_at first.known reading desk each gathered.kept ended);
      audited = audited;
      told = told;
      answer = answer;
    }

-- how a drill fails whose desk did not come back, or wants memory at its end
pub loses : (version : LinesVersion) (map : List ℕ) (scen : Option (List ℕ)) (agents : ℕ) (mode : Mode) (scripts : List (Vec ℕ Global)) (planners : ℕ) (scene : SceneState) (shared : Sharing) (began : PassState) (first : Held) (fault : RunFault)
    → Opens map scen agents mode scene → IsFirst (opening scene MOST_ENTRIES) planners began → HasServed shared began.start first.known 1 (inputs_of version scripts) → (fault ≡ OutOfMemory) ⊎ (fault ≡ PassLost)
    → FailsUnwritten map scen agents mode (inputs_of version scripts) fault
loses version map scen agents mode scripts planners scene shared began first fault opens is served (inl none) = inr (record { scene = scene; opens = opens; why = inl none })
loses version map scen agents mode scripts planners scene shared began first fault opens is served (inr lost) =
    let all = subst (λ (start : DeskState). AreServed shared start first.known.made 1 (inputs_of version scripts)) is.start served.1 in
    inr (record { scene = scene; opens = opens; why = inr (shared, inr (record { first = first.known; served = all; told = lost })) })

-- how a drill fails, by where it does
module _ (version : LinesVersion) (map : List ℕ) (scen : Option (List ℕ)) (agents : ℕ) (mode : Mode) (scripts : List (Vec ℕ Global)) (held0 held1 : Option (List ℕ)) where
  few_texts : length scripts ≤ MOST_SCRIPTS → length (inputs_of version scripts) ≤ MOST_SCRIPTS
  few_texts few = subst (λ (n : ℕ). n ≤ MOST_SCRIPTS) (sym (texts_length version scripts)) few

  pub fails_many : MOST_SCRIPTS < length scripts → held1 ≡ held0 → FailsDrill map scen agents mode (inputs_of version scripts) held0 held1 TooManyScripts
  fails_many many same = inl (subst (λ (n : ℕ). MOST_SCRIPTS < n) (sym (texts_length version scripts)) many, refl, same)

  pub fails_unwritten : (fault : RunFault) → length scripts ≤ MOST_SCRIPTS → FailsUnwritten map scen agents mode (inputs_of version scripts) fault → held1 ≡ held0 → FailsDrill map scen agents mode (inputs_of version scripts) held0 held1 fault
  fails_unwritten fault few fails same = inr (few_texts few, inl (fails, same))

  pub fails_writing : (reading : Reading) (same : Bool) → length scripts ≤ MOST_SCRIPTS → ComesTo map scen agents mode (inputs_of version scripts) reading same → AppendsFront held0 held1 (drill_text reading same) → FailsDrill map scen agents mode (inputs_of version scripts) held0 held1 WriteFailed
  fails_writing reading same few comes sent = inr (few_texts few, inr (record { reading = reading; same = same; comes_to = comes; fails = refl; sent = sent }))
