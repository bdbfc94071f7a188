use mathlib.Core.List.{[], ◌∷◌}
use denote.Exit.{no}
use denote.Struct.Field.{u32-field}
use denote.Param.Send.{IsSend, sendable, param_send, arg_send, shr_send}
use denote.Param.SendFields.{as_row_send, variants_send}
use Rattle.std.proofs.alloc.Global.TheSendSync as heap
use Rattle.core.specs.contracts.result.Result as outcome
use Rattle.solver_check.specs.contracts.seats.SeatFault as fault
use Rattle.solver_check.proofs.seats.SeatFault.TheSendSync as faults
use Rattle.shared_runs.proofs.hosts.sittings.Start.TheSendSync as begun
use Rattle.shared_runs.proofs.Sent.{shared_sync, pass_send, closure_send}
use Rattle.shared_runs.proofs.hosts.sittings.begin.Goals as goal

pub spawn_scoped_with-started-requires-send-F : goal.spawn_scoped_with-started-requires-send-F
spawn_scoped_with-started-requires-send-F g c κs within =
    let number : IsSend u32-field.row = search sendable in
    param_send 2 _ (arg_send _ no _ (closure_send _ (_ ∷ _ ∷ _ ∷ _ ∷ _ ∷ u32-field.row ∷ _ ∷ [])
    (shr_send _ _ _ c.type_bounds.sync-R)
    heap.the_send
    (shr_send _ _ _ shared_sync)
    pass_send
    (shr_send _ _ _ c.type_bounds.sync-S)
    number
    (shr_send _ _ _ begun.the_sync)))

outcome_send : IsSend (outcome.the_row u32-field.row fault.the_row)
outcome_send = search (sendable, as_row_send, variants_send, faults.the_send) depth 20

pub spawn_scoped_with-started-requires-send-T : goal.spawn_scoped_with-started-requires-send-T
spawn_scoped_with-started-requires-send-T g c κs within = param_send 3 _ (arg_send _ no _ (closure_send _ (_ ∷ _ ∷ []) pass_send outcome_send))
