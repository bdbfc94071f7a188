use Rattle.std.proofs.Common.{inl, refl}
use Rattle.solver_check.specs.declared.faults.RunFault.TheVariants.{OutOfMemory}
use Rattle.mapf_desk.proofs.serving.serve_between.Goals as goal

pub returns-in-Err : goal.returns-in-Err
returns-in-Err g c = (OutOfMemory, inl refl, inl refl)
