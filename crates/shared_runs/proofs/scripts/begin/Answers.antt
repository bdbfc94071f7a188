use mathlib.Core.List.{[], ◌∷◌}
use denote.Exit.{no}
use denote.Struct.Field.{u8-field, u32-field}
use denote.Param.Send.{IsSend, IsSync, sendable, param_send, arg_send, shr_send, shr_slice_send}
use denote.Param.SendFields.{as_row_send, variants_send}
use Rattle.std.proofs.alloc.Global.TheSendSync as heap
use Rattle.std.proofs.Crossing.{crosses}
use Rattle.shared_runs.proofs.Sent.{shared_sync, pass_send, closure_send}
use Rattle.shared_runs.proofs.scripts.begin.Goals as goal

pub spawn_with-started-requires-send-F : goal.spawn_with-started-requires-send-F
spawn_with-started-requires-send-F g c κs within =
    let number : IsSend u32-field.row = search sendable in
    let byte : IsSync u8-field.row = search sendable in
    param_send 2 _ (arg_send _ no _ (closure_send _ (_ ∷ _ ∷ _ ∷ _ ∷ _ ∷ u32-field.row ∷ _ ∷ _ ∷ [])
    (shr_send _ _ _ c.type_bounds.sync-R)
    heap.the_send
    (shr_send _ _ _ shared_sync)
    pass_send
    (shr_slice_send _ _ u8-field.row byte)
    number
    (shr_send _ _ _ c.type_bounds.sync-H)
    (shr_send _ _ _ c.type_bounds.sync-P)))

pub spawn_with-started-requires-send-T : goal.spawn_with-started-requires-send-T
spawn_with-started-requires-send-T g c κs within = search (param_send, pass_send, sendable, as_row_send, variants_send, crosses) depth 20 fits 20000
