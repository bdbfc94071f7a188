-- A run of `serve` is a session over the desk of its files, with no journal, of which the end is told.
use Rattle.std.proofs.Common.{ℕ, List, Option, Some, None, Result, Ok, Err, inl, inr, refl, ap, subst}
use Rattle.plan_table.specs.declared.tracks.Mode.{Mode}
use Rattle.desk_commits.specs.State.{DeskState}
use Rattle.session_protocol.specs.Answer.{answering}
use Rattle.desk_commits.specs.Counting.{desk_counting}
use Rattle.session_protocol.specs.Session.{Serves}
use Rattle.session_protocol.specs.declared.bounds.Bounds.{Bounds}
use Rattle.session_protocol.specs.declared.bounds.ServeFault.{ServeFault}
use Rattle.session_lines.specs.declared.versions.LinesVersion.TheVariants.{One}
use Rattle.session_protocol.specs.declared.drafts.Session.TheVariants.{Idle}
use Rattle.solver_check.specs.Faults.{run_answer}
use Rattle.solver_check.specs.Bounds.{run_bounds}
use Rattle.single_runs.specs.Runs.{RunsOver, Runs}
use Rattle.single_runs.specs.Sittings.{SitsOver, SitsOverFiles}
use Rattle.solver_check.specs.declared.faults.RunFault.{RunFault}

-- what a run answers that ended so
abbrev pub sat_answer : Result (DeskState × Result ℕ ServeFault) RunFault → Result ℕ RunFault
sat_answer (Ok sat) = run_answer sat.1
sat_answer (Err fault) = Err fault

module _ (scen : Option (List ℕ)) (agents : ℕ) (mode : Mode) (limit : ℕ) where
  ran_over : (map : List ℕ) (bounds : Bounds) (left0 left1 held0 held1 : Option (List ℕ)) (result : Result (DeskState × Result ℕ ServeFault) RunFault) → SitsOver One map scen agents mode limit None bounds left0 left1 held0 held1 result → RunsOver map scen agents mode limit bounds left0 left1 held0 held1 (sat_answer result)
  ran_over map bounds left0 left1 held0 held1 (Ok sat) is =
      inl (record {
        scene = is.opens.scene;
        opens = is.opens.opens;
        last = is.last;
        desk = sat.0;
        ended = sat.1;
        session = subst (λ d. Serves (answering desk_counting) bounds left0 left1 held0 held1 (Idle, d) (is.last, sat.0) sat.1) is.opens.replays is.session;
        told = refl;
      })
  ran_over map bounds left0 left1 held0 held1 (Err fault) (inl first, unread, silent) = inr (record { fault = fault; first = first; told = refl; unread = unread; silent = silent })
  ran_over map bounds left0 left1 held0 held1 (Err fault) (inr entry, unread, silent) = absurd entry.first

  pub ran : (map : Option (List ℕ)) (left0 left1 held0 held1 : Option (List ℕ)) (result : Result (DeskState × Result ℕ ServeFault) RunFault) → SitsOverFiles One map scen agents mode limit None left0 left1 held0 held1 result → Runs map scen agents mode limit left0 left1 held0 held1 (sat_answer result)
  ran (Some map) left0 left1 held0 held1 result is = ran_over map run_bounds left0 left1 held0 held1 result is
  ran None left0 left1 held0 held1 (Ok sat) is = inl (record { text = is.text; between = is.between; heard = is.heard; runs = ran_over is.text _ is.between left1 held0 held1 (Ok sat) is.sits })
  ran None left0 left1 held0 held1 (Err fault) (inl is) = inl (record { text = is.text; between = is.between; heard = is.heard; runs = ran_over is.text _ is.between left1 held0 held1 (Err fault) is.sits })
  ran None left0 left1 held0 held1 (Err fault) (inr is) =
      inr (record { why = is.why; stops = is.stops; told = ap (λ (f : RunFault). let r : Result ℕ RunFault = Err f in r) is.told; silent = is.silent })
