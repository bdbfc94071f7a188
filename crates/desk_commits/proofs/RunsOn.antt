-- A run goes on by one call.
use Rattle.std.proofs.Common.{List, [], ◌∷◌, ◌++◌, refl, subst}
use Rattle.desk_commits.specs.State.{DeskState}
use Rattle.desk_commits.specs.Runs.{IsCall, IsRun}
use Rattle.desk_commits.specs.declared.answers.Call.{Call}
use Rattle.desk_commits.specs.declared.answers.Answer.{Answer}

pub IsRun-push : (old between new : DeskState) (calls : List Call) (answers : List Answer) (call : Call) (answer : Answer) → IsRun old calls answers between → IsCall between call answer new → IsRun old (calls ++ call ∷ []) (answers ++ answer ∷ []) new
IsRun-push old between new [] [] call answer run is = (new, subst (λ desk. IsCall desk call answer new) run is, refl)
IsRun-push old between new [] (other ∷ answers) call answer run is = absurd run
IsRun-push old between new (asked ∷ calls) [] call answer run is = absurd run
IsRun-push old between new (asked ∷ calls) (other ∷ answers) call answer run is = (run.0, run.1, IsRun-push run.0 between new calls answers call answer run.2 is)
