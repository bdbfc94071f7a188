-- The faults of a desk that doesn't open are neither the source's nor the sink's.
use Rattle.std.proofs.Common.{ℕ, List, Option, Some, None, inl, inr}
use Rattle.plan_table.specs.declared.tracks.Mode.{Mode}
use Rattle.solver_check.specs.declared.faults.RunFault.{RunFault}
use Rattle.solver_check.proofs.Unserved.{IsUnserved, as_unserved, journal_unserved, replay_unserved, scene_unserved}
use Rattle.single_runs.specs.Opened.{IsDeskFault}

pub desk_unserved : (text : List ℕ) (scen : Option (List ℕ)) (agents : ℕ) (mode : Mode) (limit : ℕ) (journal : Option (List ℕ)) (fault : RunFault) → IsDeskFault text scen agents mode limit journal fault → IsUnserved fault
desk_unserved text scen agents mode limit journal fault (inl f) = scene_unserved text scen agents fault f
desk_unserved text scen agents mode limit None fault (inr f) = absurd f.first
desk_unserved text scen agents mode limit (Some journal) fault (inr f) =
    elim f.first [
      | inl is ↦ as_unserved _ fault is.told (journal_unserved is.why)
      | inr is ↦ as_unserved _ fault is.told (replay_unserved is.why)
    ]
